-- Trees as data, without the places in memory of the code's trees, and what tree of this kind one of the code's is.
use Rattle.std.specs.Prelude.{ℕ, List, [], ◌∷◌, Bool, Option, Some, None, map}
use Rattle.std.specs.declared.vec.Vec.{Vec}
use Rattle.std.specs.declared.alloc.Global.{Global}
use Rattle.jam_grammar.specs.declared.tree.Sign.{Sign}
use Rattle.jam_grammar.specs.declared.tree.Param.{Param}
use Rattle.jam_grammar.specs.declared.tree.Arg.{Arg}
use Rattle.jam_grammar.specs.declared.tree.Arg.TheVariants as arg
use Rattle.jam_grammar.specs.declared.tree.Inner.{Inner, Row_of-Arg, end_of-Arg, more_of-Arg, Row_of-Inner-Call-1-1, end_of-Inner-Call-1-1, more_of-Inner-Call-1-1}
use Rattle.jam_grammar.specs.declared.tree.Inner.TheVariants as inner
use Rattle.jam_grammar.specs.declared.tree.Expr.{Expr, Row_of-Expr, end_of-Expr, more_of-Expr}
use Rattle.jam_grammar.specs.declared.tree.Expr.TheVariants as expr
use Rattle.jam_grammar.specs.declared.tree.Form.{Form, Row_of-Case, end_of-Case, more_of-Case}
use Rattle.jam_grammar.specs.declared.tree.Form.TheVariants as form
use Rattle.jam_grammar.specs.declared.tree.Other.{Other}
use Rattle.jam_grammar.specs.declared.tree.Other.TheVariants as other
use Rattle.jam_grammar.specs.declared.tree.Block.{Block, Block', Row_of-Stmt, end_of-Stmt, more_of-Stmt}
use Rattle.jam_grammar.specs.declared.tree.Case.{Case, Case'}
use Rattle.jam_grammar.specs.declared.tree.Stmt.{Stmt}
use Rattle.jam_grammar.specs.declared.tree.Tree.{Tree}

-- an argument, what stands in brackets, arguments, and lists of them
mutual
  pub data ArgTree : Type 0 where
    Word : List ℕ → ArgTree
    Bracket : InnerTree → ArgTree

  pub data InnerTree : Type 0 where
    CallOf : ArgTree → ListTrees → InnerTree
    OnInner : ArgTree → InnerTree → InnerTree
    OnReturn : ArgTree → ArgTrees → InnerTree

  pub data ArgTrees : Type 0 where
    NoArgs : ArgTrees
    ArgAnd : ArgTree → ArgTrees → ArgTrees

  pub data ListTrees : Type 0 where
    NoLists : ListTrees
    ListAnd : ArgTrees → ListTrees → ListTrees

-- a condition, and several
mutual
  pub data ExprTree : Type 0 where
    Or : ExprTrees → ExprTree
    And : ExprTrees → ExprTree
    Not : ExprTree → ExprTree
    Group : ExprTree → ExprTree
    Bare : ArgTree → ExprTree
    Equal : ArgTree → ArgTree → ExprTree
    Differ : ArgTree → ArgTree → ExprTree
    Within : ArgTree → ArgTrees → ExprTree

  pub data ExprTrees : Type 0 where
    NoExprs : ExprTrees
    ExprAnd : ExprTree → ExprTrees → ExprTrees

-- a form, what follows on an `if`, statements with their lines, and cases with their patterns
mutual
  pub data FormTree : Type 0 where
    Braces : StmtTrees → FormTree
    Local : ArgTrees → Option ArgTrees → FormTree
    Assign : ArgTree → Sign → ArgTrees → FormTree
    AssignOn : ArgTree → ArgTrees → Sign → ArgTrees → FormTree
    Include : ArgTrees → FormTree
    Return : ArgTrees → FormTree
    If : ExprTree → StmtTrees → OtherTree → FormTree
    For : Bool → List ℕ → ArgTrees → StmtTrees → FormTree
    While : ExprTree → StmtTrees → FormTree
    Switch : ArgTrees → CaseTrees → FormTree
    Module : ArgTrees → StmtTrees → FormTree
    Rule : List ℕ → List (List Param) → StmtTrees → FormTree
    Actions : List ℕ → Bool → Bool → Bool → List ℕ → FormTree
    On : ArgTree → ℕ → FormTree → FormTree
    Call : ArgTree → ListTrees → FormTree

  pub data OtherTree : Type 0 where
    Nothing : OtherTree
    ElseBraces : StmtTrees → OtherTree
    ElseIf : ℕ → FormTree → OtherTree

  pub data StmtTrees : Type 0 where
    NoStmts : StmtTrees
    StmtAnd : ℕ → FormTree → StmtTrees → StmtTrees

  pub data CaseTrees : Type 0 where
    NoCases : CaseTrees
    CaseAnd : List ℕ → StmtTrees → CaseTrees → CaseTrees

-- an argument of the code
abbrev mutual
  pub arg_tree : Arg → ArgTree
  arg_tree (arg.Word text) = Word text
  arg_tree (arg.Bracket' place i) = Bracket (inner_tree i)

  pub inner_tree : Inner → InnerTree
  inner_tree (inner.Call' head shape lists) = CallOf (arg_tree head) (rows_tree lists)
  inner_tree (inner.On' target place i) = OnInner (arg_tree target) (inner_tree i)
  inner_tree (inner.OnReturn' target shape value) = OnReturn (arg_tree target) (row_tree value)

  pub row_tree : {n : _} → Row_of-Arg n → ArgTrees
  row_tree end_of-Arg = NoArgs
  row_tree (more_of-Arg first rest) = ArgAnd (arg_tree first) (row_tree rest)

  pub rows_tree : {n : _} → Row_of-Inner-Call-1-1 n → ListTrees
  rows_tree end_of-Inner-Call-1-1 = NoLists
  rows_tree (more_of-Inner-Call-1-1 shape first rest) = ListAnd (row_tree first) (rows_tree rest)

-- arguments and lists of the code
abbrev pub args_tree : List Arg → ArgTrees
args_tree [] = NoArgs
args_tree (first ∷ rest) = ArgAnd (arg_tree first) (args_tree rest)

abbrev pub lists_tree : List (Vec Arg Global) → ListTrees
lists_tree [] = NoLists
lists_tree (first ∷ rest) = ListAnd (args_tree first.items) (lists_tree rest)

abbrev pub value_tree : Option (Vec Arg Global) → Option ArgTrees
value_tree None = None
value_tree (Some value) = Some (args_tree value.items)

-- a condition of the code
abbrev mutual
  pub expr_tree : Expr → ExprTree
  expr_tree (expr.Or' shape members) = Or (exprs_row_tree members)
  expr_tree (expr.And' shape members) = And (exprs_row_tree members)
  expr_tree (expr.Not' place e) = Not (expr_tree e)
  expr_tree (expr.Group' place e) = Group (expr_tree e)
  expr_tree (expr.Bare a) = Bare (arg_tree a)
  expr_tree (expr.Equal a b) = Equal (arg_tree a) (arg_tree b)
  expr_tree (expr.Differ a b) = Differ (arg_tree a) (arg_tree b)
  expr_tree (expr.Within a list) = Within (arg_tree a) (args_tree list.items)

  pub exprs_row_tree : {n : _} → Row_of-Expr n → ExprTrees
  exprs_row_tree end_of-Expr = NoExprs
  exprs_row_tree (more_of-Expr first rest) = ExprAnd (expr_tree first) (exprs_row_tree rest)

abbrev pub exprs_tree : List Expr → ExprTrees
exprs_tree [] = NoExprs
exprs_tree (first ∷ rest) = ExprAnd (expr_tree first) (exprs_tree rest)

-- the lists of parameters
abbrev pub params_of : Vec (Vec Param Global) Global → List (List Param)
params_of params = map (λ list. list.items) params.items

-- a form of the code, and blocks and cases of it
abbrev mutual
  pub form_tree : Form → FormTree
  form_tree (form.Braces block) = Braces (block_tree block)
  form_tree (form.Local names value) = Local (args_tree names.items) (value_tree value)
  form_tree (form.Assign target sign value) = Assign (arg_tree target) sign (args_tree value.items)
  form_tree (form.AssignOn target on sign value) = AssignOn (arg_tree target) (args_tree on.items) sign (args_tree value.items)
  form_tree (form.Include names) = Include (args_tree names.items)
  form_tree (form.Return value) = Return (args_tree value.items)
  form_tree (form.If test block next) = If (expr_tree test) (block_tree block) (other_tree next)
  form_tree (form.For own name items block) = For own name (args_tree items.items) (block_tree block)
  form_tree (form.While test block) = While (expr_tree test) (block_tree block)
  form_tree (form.Switch' value shape cases) = Switch (args_tree value.items) (cases_row_tree cases)
  form_tree (form.Module name block) = Module (args_tree name.items) (block_tree block)
  form_tree (form.Rule' name params place block) = Rule name (params_of params) (block_tree block)
  form_tree (form.Actions name together existing quietly body) = Actions name together existing quietly body
  form_tree (form.On' target place line f) = On (arg_tree target) line (form_tree f)
  form_tree (form.Call head lists) = Call (arg_tree head) (lists_tree lists.items)

  pub other_tree : Other → OtherTree
  other_tree other.Nothing = Nothing
  other_tree (other.Braces block) = ElseBraces (block_tree block)
  other_tree (other.If' place line f) = ElseIf line (form_tree f)

  pub block_tree : Block → StmtTrees
  block_tree (Block' shape stmts) = stmts_row_tree stmts

  pub stmts_row_tree : {n : _} → Row_of-Stmt n → StmtTrees
  stmts_row_tree end_of-Stmt = NoStmts
  stmts_row_tree (more_of-Stmt line f rest) = StmtAnd line (form_tree f) (stmts_row_tree rest)

  pub cases_row_tree : {n : _} → Row_of-Case n → CaseTrees
  cases_row_tree end_of-Case = NoCases
  cases_row_tree (more_of-Case first rest) = case_before first (cases_row_tree rest)

  pub case_before : Case → CaseTrees → CaseTrees
  case_before (Case' pattern block) rest = CaseAnd pattern (block_tree block) rest

-- statements and cases of the code
abbrev pub cases_tree : List Case → CaseTrees
cases_tree [] = NoCases
cases_tree (first ∷ rest) = case_before first (cases_tree rest)

abbrev pub stmts_tree : List Stmt → StmtTrees
stmts_tree [] = NoStmts
stmts_tree (first ∷ rest) = StmtAnd first.line (form_tree first.form) (stmts_tree rest)

-- a whole file of the code
abbrev pub whole_tree : Tree → StmtTrees
whole_tree tree = block_tree tree.block

-- the lists of parameters of the code, as data
abbrev pub lists_of : List (Vec Param Global) → List (List Param)
lists_of = map (λ list. list.items)
