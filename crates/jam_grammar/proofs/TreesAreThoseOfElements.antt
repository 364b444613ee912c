-- The trees of the code's vectors are those of their elements.
use Rattle.std.proofs.Common.{◌≡◌, refl, sym, ap, ◌∙◌}
use Rattle.std.specs.declared.vec.Vec.{Vec}
use Rattle.std.specs.declared.alloc.Global.{Global}
use Rattle.jam_grammar.specs.declared.tree.Arg.{Arg}
use Rattle.jam_grammar.specs.declared.tree.Inner.{Row_of-Arg, end_of-Arg, more_of-Arg, items-the_row-Arg, items_shown-the_row-Arg-0, items_hidden-the_row-Arg-0, Row_of-Inner-Call-1-1, end_of-Inner-Call-1-1, more_of-Inner-Call-1-1, items-the_row-Inner-Call-1-1, items_hidden-the_row-Inner-Call-1-1-1}
use Rattle.jam_grammar.specs.declared.tree.Inner.TheVariants as inner
use Rattle.jam_grammar.specs.declared.tree.Expr.{Expr, Row_of-Expr, end_of-Expr, more_of-Expr, items-the_row-Expr, items_hidden-the_row-Expr-0}
use Rattle.jam_grammar.specs.declared.tree.Expr.TheVariants as expr
use Rattle.jam_grammar.specs.declared.tree.Form.{Row_of-Case, end_of-Case, more_of-Case, items-the_row-Case, items_hidden-the_row-Case-0}
use Rattle.jam_grammar.specs.declared.tree.Form.TheVariants as form
use Rattle.jam_grammar.specs.declared.tree.Block.{roll-Block, rolls-Block', Row_of-Stmt, end_of-Stmt, more_of-Stmt, items-the_row-Stmt, items_hidden-the_row-Stmt-1}
use Rattle.jam_grammar.specs.declared.tree.Stmt.{Stmt}
use Rattle.jam_grammar.specs.declared.tree.Case.{Case}
use Rattle.jam_grammar.specs.declared.tree.Arg.TheBlock.{hidden-the_row-Arg-0, hidden-the_row-Inner-Call-1-1-1}
use Rattle.jam_grammar.specs.declared.tree.Expr.TheBlock.{hidden-the_row-Expr-0}
use Rattle.jam_grammar.specs.declared.tree.Form.TheBlock.{hidden-the_row-Case-0, hidden-the_row-Stmt-1}
use Rattle.jam_grammar.specs.Trees.{ArgTrees, ArgAnd, ListTrees, ListAnd, CallOf, OnReturn, ExprAnd, Or, And, Switch, StmtAnd, arg_tree, inner_tree, row_tree, rows_tree, args_tree, lists_tree, expr_tree, exprs_row_tree, exprs_tree, form_tree, block_tree, stmts_row_tree, stmts_tree, cases_row_tree, cases_tree, case_before}

pub row_is : {n : _} (r : Row_of-Arg n) → row_tree r ≡ args_tree (items-the_row-Arg n r)
row_is end_of-Arg = refl
row_is (more_of-Arg a r) = ap (λ rest. ArgAnd (arg_tree a) rest) (row_is r)

list_and : (a b : ArgTrees) (c d : ListTrees) → a ≡ b → c ≡ d → ListAnd a c ≡ ListAnd b d
list_and a b c d e f = cc

pub rows_is : {n : _} (r : Row_of-Inner-Call-1-1 n) → rows_tree r ≡ lists_tree (items-the_row-Inner-Call-1-1 n r)
rows_is end_of-Inner-Call-1-1 = refl
rows_is (more_of-Inner-Call-1-1 shape row r) =
    list_and _ _ _ _ (row_is row ∙ ap args_tree (sym (items_shown-the_row-Arg-0 shape row))) (rows_is r)

-- what stands in brackets
pub call_is : (head : Arg) (lists : Vec (Vec Arg Global) Global) → inner_tree (inner.Call head lists) ≡ CallOf (arg_tree head) (lists_tree lists.items)
call_is head lists = ap (λ x. CallOf (arg_tree head) x) (rows_is (hidden-the_row-Inner-Call-1-1-1 lists) ∙ ap lists_tree (items_hidden-the_row-Inner-Call-1-1-1 lists))

pub on_return_is : (target : Arg) (value : Vec Arg Global) → inner_tree (inner.OnReturn target value) ≡ OnReturn (arg_tree target) (args_tree value.items)
on_return_is target value = ap (λ x. OnReturn (arg_tree target) x) (row_is (hidden-the_row-Arg-0 value) ∙ ap args_tree (items_hidden-the_row-Arg-0 value))

-- conditions
pub exprs_is : {n : _} (r : Row_of-Expr n) → exprs_row_tree r ≡ exprs_tree (items-the_row-Expr n r)
exprs_is end_of-Expr = refl
exprs_is (more_of-Expr e r) = ap (λ rest. ExprAnd (expr_tree e) rest) (exprs_is r)

pub or_is : (members : Vec Expr Global) → expr_tree (expr.Or members) ≡ Or (exprs_tree members.items)
or_is members = ap Or (exprs_is (hidden-the_row-Expr-0 members) ∙ ap exprs_tree (items_hidden-the_row-Expr-0 members))

pub and_is : (members : Vec Expr Global) → expr_tree (expr.And members) ≡ And (exprs_tree members.items)
and_is members = ap And (exprs_is (hidden-the_row-Expr-0 members) ∙ ap exprs_tree (items_hidden-the_row-Expr-0 members))

-- blocks and cases
pub stmts_row_is : {n : _} (r : Row_of-Stmt n) → stmts_row_tree r ≡ stmts_tree (items-the_row-Stmt n r)
stmts_row_is end_of-Stmt = refl
stmts_row_is (more_of-Stmt line f r) = ap (λ rest. StmtAnd line (form_tree f) rest) (stmts_row_is r)

pub block_is : (stmts : Vec Stmt Global) → block_tree (roll-Block record { stmts = stmts }) ≡ stmts_tree stmts.items
block_is stmts =
    ap block_tree (rolls-Block' record { stmts = stmts }) ∙ stmts_row_is (hidden-the_row-Stmt-1 stmts) ∙ ap stmts_tree (items_hidden-the_row-Stmt-1 stmts)

pub cases_row_is : {n : _} (r : Row_of-Case n) → cases_row_tree r ≡ cases_tree (items-the_row-Case n r)
cases_row_is end_of-Case = refl
cases_row_is (more_of-Case c r) = ap (λ rest. case_before c rest) (cases_row_is r)

pub switch_is : (value : Vec Arg Global) (cases : Vec Case Global) → form_tree (form.Switch value cases) ≡ Switch (args_tree value.items) (cases_tree cases.items)
switch_is value cases = ap (λ x. Switch (args_tree value.items) x) (cases_row_is (hidden-the_row-Case-0 cases) ∙ ap cases_tree (items_hidden-the_row-Case-0 cases))
