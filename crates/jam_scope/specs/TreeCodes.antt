-- How trees are stored as data: each as its number among the forms of its kind, with its parts, from which it is read back.
use Rattle.std.specs.Prelude.{◌≡◌, ℕ, zero, suc, Bool, true, false, List, [], ◌∷◌, Option, Some, None, refl}
use Rattle.std.proofs.Common.{sym, ap, ◌∙◌}
use base.Stored.{Gv, gnil, gnum, gcons, Coded}
use Rattle.jam_grammar.specs.declared.tree.Sign.{Sign}
use Rattle.jam_grammar.specs.declared.tree.Sign.TheVariants as sign
use Rattle.jam_grammar.specs.declared.tree.Param.{Param}
use Rattle.jam_grammar.specs.Trees as tree
use Rattle.jam_grammar.specs.Trees.{ArgTree, InnerTree, ArgTrees, ListTrees, ExprTree, ExprTrees, FormTree, OtherTree, StmtTrees, CaseTrees}

-- ---- texts, signs and parameters

abbrev text_g : List ℕ → Gv
text_g [] = gnil
text_g (byte ∷ bytes) = gcons (gnum byte) (text_g bytes)

abbrev text_of : Gv → List ℕ
text_of (gcons (gnum byte) bytes) = byte ∷ text_of bytes
text_of g = []

text_back : (text : List ℕ) → text_of (text_g text) ≡ text
text_back [] = refl
text_back (byte ∷ bytes) = ap (λ more. byte ∷ more) (text_back bytes)

abbrev bool_g : Bool → Gv
bool_g false = gnum 0
bool_g true = gnil

abbrev bool_of : Gv → Bool
bool_of (gnum n) = false
bool_of g = true

bool_back : (b : Bool) → bool_of (bool_g b) ≡ b
bool_back false = refl
bool_back true = refl

abbrev sign_g : Sign → Gv
sign_g sign.Set = gnil
sign_g sign.Add = gnum 0
sign_g sign.Fill = gcons gnil gnil

abbrev sign_of : Gv → Sign
sign_of gnil = sign.Set
sign_of (gnum n) = sign.Add
sign_of (gcons a b) = sign.Fill

sign_back : (how : Sign) → sign_of (sign_g how) ≡ how
sign_back sign.Set = refl
sign_back sign.Add = refl
sign_back sign.Fill = refl

abbrev mark_g : Option ℕ → Gv
mark_g None = gnil
mark_g (Some mark) = gnum mark

abbrev mark_of : Gv → Option ℕ
mark_of (gnum mark) = Some mark
mark_of g = None

mark_back : (mark : Option ℕ) → mark_of (mark_g mark) ≡ mark
mark_back None = refl
mark_back (Some mark) = refl

abbrev param_g : Param → Gv
param_g p = gcons (text_g p.name) (mark_g p.mark)

abbrev param_of : Gv → Param
param_of (gcons name mark) = record { name = text_of name; mark = mark_of mark }
param_of g = record { name = []; mark = None }

param_back : (p : Param) → param_of (param_g p) ≡ p
param_back p = λ i. record { name = text_back p.name i; mark = mark_back p.mark i }

abbrev params_g : List Param → Gv
params_g [] = gnil
params_g (p ∷ ps) = gcons (param_g p) (params_g ps)

abbrev params_of : Gv → List Param
params_of (gcons p ps) = param_of p ∷ params_of ps
params_of g = []

params_back : (ps : List Param) → params_of (params_g ps) ≡ ps
params_back [] = refl
params_back (p ∷ ps) = λ i. param_back p i ∷ params_back ps i

abbrev lists_g : List (List Param) → Gv
lists_g [] = gnil
lists_g (ps ∷ more) = gcons (params_g ps) (lists_g more)

abbrev lists_of : Gv → List (List Param)
lists_of (gcons ps more) = params_of ps ∷ lists_of more
lists_of g = []

lists_back : (more : List (List Param)) → lists_of (lists_g more) ≡ more
lists_back [] = refl
lists_back (ps ∷ more) = λ i. params_back ps i ∷ lists_back more i

-- ---- arguments

abbrev mutual
  arg_g : ArgTree → Gv
  arg_g (tree.Word text) = gcons (gnum 0) (text_g text)
  arg_g (tree.Bracket inner) = gcons (gnum 1) (inner_g inner)

  inner_g : InnerTree → Gv
  inner_g (tree.CallOf head given) = gcons (gnum 0) (gcons (arg_g head) (given_g given))
  inner_g (tree.OnInner target inner) = gcons (gnum 1) (gcons (arg_g target) (inner_g inner))
  inner_g (tree.OnReturn target value) = gcons (gnum 2) (gcons (arg_g target) (args_g value))

  args_g : ArgTrees → Gv
  args_g tree.NoArgs = gnil
  args_g (tree.ArgAnd first rest) = gcons (arg_g first) (args_g rest)

  given_g : ListTrees → Gv
  given_g tree.NoLists = gnil
  given_g (tree.ListAnd first rest) = gcons (args_g first) (given_g rest)

abbrev mutual
  arg_of : Gv → ArgTree
  arg_of (gcons (gnum zero) text) = tree.Word (text_of text)
  arg_of (gcons (gnum (suc n)) inner) = tree.Bracket (inner_of inner)
  arg_of g = tree.Word []

  inner_of : Gv → InnerTree
  inner_of (gcons (gnum zero) (gcons head given)) = tree.CallOf (arg_of head) (given_of given)
  inner_of (gcons (gnum (suc zero)) (gcons target inner)) = tree.OnInner (arg_of target) (inner_of inner)
  inner_of (gcons (gnum (suc (suc n))) (gcons target value)) = tree.OnReturn (arg_of target) (args_of value)
  inner_of g = tree.CallOf (tree.Word []) tree.NoLists

  args_of : Gv → ArgTrees
  args_of (gcons first rest) = tree.ArgAnd (arg_of first) (args_of rest)
  args_of g = tree.NoArgs

  given_of : Gv → ListTrees
  given_of (gcons first rest) = tree.ListAnd (args_of first) (given_of rest)
  given_of g = tree.NoLists

mutual
  arg_back : (a : ArgTree) → arg_of (arg_g a) ≡ a
  arg_back (tree.Word text) = λ i. tree.Word (text_back text i)
  arg_back (tree.Bracket inner) = λ i. tree.Bracket (inner_back inner i)

  inner_back : (t : InnerTree) → inner_of (inner_g t) ≡ t
  inner_back (tree.CallOf head given) = λ i. tree.CallOf (arg_back head i) (given_back given i)
  inner_back (tree.OnInner target inner) = λ i. tree.OnInner (arg_back target i) (inner_back inner i)
  inner_back (tree.OnReturn target value) = λ i. tree.OnReturn (arg_back target i) (args_back value i)

  args_back : (as_ : ArgTrees) → args_of (args_g as_) ≡ as_
  args_back tree.NoArgs = refl
  args_back (tree.ArgAnd first rest) = λ i. tree.ArgAnd (arg_back first i) (args_back rest i)

  given_back : (ls : ListTrees) → given_of (given_g ls) ≡ ls
  given_back tree.NoLists = refl
  given_back (tree.ListAnd first rest) = λ i. tree.ListAnd (args_back first i) (given_back rest i)

-- ---- conditions

abbrev mutual
  expr_g : ExprTree → Gv
  expr_g (tree.Or members) = gcons (gnum 0) (exprs_g members)
  expr_g (tree.And members) = gcons (gnum 1) (exprs_g members)
  expr_g (tree.Not e) = gcons (gnum 2) (expr_g e)
  expr_g (tree.Group e) = gcons (gnum 3) (expr_g e)
  expr_g (tree.Bare a) = gcons (gnum 4) (arg_g a)
  expr_g (tree.Equal a b) = gcons (gnum 5) (gcons (arg_g a) (arg_g b))
  expr_g (tree.Differ a b) = gcons (gnum 6) (gcons (arg_g a) (arg_g b))
  expr_g (tree.Within a list) = gcons (gnum 7) (gcons (arg_g a) (args_g list))

  exprs_g : ExprTrees → Gv
  exprs_g tree.NoExprs = gnil
  exprs_g (tree.ExprAnd first rest) = gcons (expr_g first) (exprs_g rest)

abbrev with_args : (ArgTree → ArgTree → ExprTree) → Gv → ExprTree
with_args make (gcons a b) = make (arg_of a) (arg_of b)
with_args make g = tree.Or tree.NoExprs

abbrev within_of : Gv → ExprTree
within_of (gcons a list) = tree.Within (arg_of a) (args_of list)
within_of g = tree.Or tree.NoExprs

abbrev mutual
  expr_of : Gv → ExprTree
  expr_of (gcons (gnum zero) members) = tree.Or (exprs_of members)
  expr_of (gcons (gnum (suc zero)) members) = tree.And (exprs_of members)
  expr_of (gcons (gnum (suc (suc zero))) e) = tree.Not (expr_of e)
  expr_of (gcons (gnum (suc (suc (suc zero)))) e) = tree.Group (expr_of e)
  expr_of (gcons (gnum (suc (suc (suc (suc zero))))) a) = tree.Bare (arg_of a)
  expr_of (gcons (gnum (suc (suc (suc (suc (suc zero)))))) g) = with_args tree.Equal g
  expr_of (gcons (gnum (suc (suc (suc (suc (suc (suc zero))))))) g) = with_args tree.Differ g
  expr_of (gcons (gnum (suc (suc (suc (suc (suc (suc (suc n)))))))) g) = within_of g
  expr_of g = tree.Or tree.NoExprs

  exprs_of : Gv → ExprTrees
  exprs_of (gcons first rest) = tree.ExprAnd (expr_of first) (exprs_of rest)
  exprs_of g = tree.NoExprs

mutual
  expr_back : (e : ExprTree) → expr_of (expr_g e) ≡ e
  expr_back (tree.Or members) = λ i. tree.Or (exprs_back members i)
  expr_back (tree.And members) = λ i. tree.And (exprs_back members i)
  expr_back (tree.Not e) = λ i. tree.Not (expr_back e i)
  expr_back (tree.Group e) = λ i. tree.Group (expr_back e i)
  expr_back (tree.Bare a) = λ i. tree.Bare (arg_back a i)
  expr_back (tree.Equal a b) = λ i. tree.Equal (arg_back a i) (arg_back b i)
  expr_back (tree.Differ a b) = λ i. tree.Differ (arg_back a i) (arg_back b i)
  expr_back (tree.Within a list) = λ i. tree.Within (arg_back a i) (args_back list i)

  exprs_back : (es : ExprTrees) → exprs_of (exprs_g es) ≡ es
  exprs_back tree.NoExprs = refl
  exprs_back (tree.ExprAnd first rest) = λ i. tree.ExprAnd (expr_back first i) (exprs_back rest i)

-- ---- statements

abbrev value_g : Option ArgTrees → Gv
value_g None = gnil
value_g (Some value) = gcons gnil (args_g value)

abbrev value_of : Gv → Option ArgTrees
value_of (gcons some value) = Some (args_of value)
value_of g = None

value_back : (value : Option ArgTrees) → value_of (value_g value) ≡ value
value_back None = refl
value_back (Some value) = λ i. Some (args_back value i)

-- forms without statements in them
abbrev plain_g : ℕ → Gv → Gv
plain_g number parts = gcons (gnum number) parts

abbrev local_of : Gv → FormTree
local_of (gcons names value) = tree.Local (args_of names) (value_of value)
local_of g = tree.Include tree.NoArgs

abbrev assign_of : Gv → FormTree
assign_of (gcons target (gcons how value)) = tree.Assign (arg_of target) (sign_of how) (args_of value)
assign_of g = tree.Include tree.NoArgs

abbrev assign_on_of : Gv → FormTree
assign_on_of (gcons target (gcons on (gcons how value))) = tree.AssignOn (arg_of target) (args_of on) (sign_of how) (args_of value)
assign_on_of g = tree.Include tree.NoArgs

abbrev actions_of : Gv → FormTree
actions_of (gcons name (gcons t (gcons e (gcons q body)))) = tree.Actions (text_of name) (bool_of t) (bool_of e) (bool_of q) (text_of body)
actions_of g = tree.Include tree.NoArgs

abbrev call_of : Gv → FormTree
call_of (gcons head given) = tree.Call (arg_of head) (given_of given)
call_of g = tree.Include tree.NoArgs

abbrev plain_of : ℕ → Gv → FormTree
plain_of zero g = local_of g
plain_of (suc zero) g = assign_of g
plain_of (suc (suc zero)) g = assign_on_of g
plain_of (suc (suc (suc zero))) g = tree.Include (args_of g)
plain_of (suc (suc (suc (suc zero)))) g = tree.Return (args_of g)
plain_of (suc (suc (suc (suc (suc zero))))) g = actions_of g
plain_of (suc (suc (suc (suc (suc (suc n)))))) g = call_of g

-- the others have their numbers in a place of their own
abbrev deep_g : ℕ → Gv → Gv
deep_g number parts = gcons (gcons (gnum number) gnil) parts

abbrev mutual
  form_g : FormTree → Gv
  form_g (tree.Local names value) = plain_g 0 (gcons (args_g names) (value_g value))
  form_g (tree.Assign target how value) = plain_g 1 (gcons (arg_g target) (gcons (sign_g how) (args_g value)))
  form_g (tree.AssignOn target on how value) = plain_g 2 (gcons (arg_g target) (gcons (args_g on) (gcons (sign_g how) (args_g value))))
  form_g (tree.Include names) = plain_g 3 (args_g names)
  form_g (tree.Return value) = plain_g 4 (args_g value)
  form_g (tree.Actions name t e q body) = plain_g 5 (gcons (text_g name) (gcons (bool_g t) (gcons (bool_g e) (gcons (bool_g q) (text_g body)))))
  form_g (tree.Call head given) = plain_g 6 (gcons (arg_g head) (given_g given))
  form_g (tree.Braces block) = deep_g 0 (stmts_g block)
  form_g (tree.If test block next) = deep_g 1 (gcons (expr_g test) (gcons (stmts_g block) (other_g next)))
  form_g (tree.For own name items block) = deep_g 2 (gcons (bool_g own) (gcons (text_g name) (gcons (args_g items) (stmts_g block))))
  form_g (tree.While test block) = deep_g 3 (gcons (expr_g test) (stmts_g block))
  form_g (tree.Switch value cases) = deep_g 4 (gcons (args_g value) (cases_g cases))
  form_g (tree.Module name block) = deep_g 5 (gcons (args_g name) (stmts_g block))
  form_g (tree.Rule name params block) = deep_g 6 (gcons (text_g name) (gcons (lists_g params) (stmts_g block)))
  form_g (tree.On target line form) = deep_g 7 (gcons (arg_g target) (gcons (gnum line) (form_g form)))

  other_g : OtherTree → Gv
  other_g tree.Nothing = gnil
  other_g (tree.ElseBraces block) = gcons gnil (stmts_g block)
  other_g (tree.ElseIf line form) = gcons (gnum line) (form_g form)

  stmts_g : StmtTrees → Gv
  stmts_g tree.NoStmts = gnil
  stmts_g (tree.StmtAnd line form rest) = gcons (gnum line) (gcons (form_g form) (stmts_g rest))

  cases_g : CaseTrees → Gv
  cases_g tree.NoCases = gnil
  cases_g (tree.CaseAnd pattern block rest) = gcons (text_g pattern) (gcons (stmts_g block) (cases_g rest))

abbrev mutual
  form_of : Gv → FormTree
  form_of (gcons (gnum number) g) = plain_of number g
  form_of (gcons (gcons (gnum zero) more) block) = tree.Braces (stmts_of block)
  form_of (gcons (gcons (gnum (suc zero)) more) (gcons test (gcons block next))) = tree.If (expr_of test) (stmts_of block) (other_of next)
  form_of (gcons (gcons (gnum (suc (suc zero))) more) (gcons own (gcons name (gcons items block)))) =
      tree.For (bool_of own) (text_of name) (args_of items) (stmts_of block)
  form_of (gcons (gcons (gnum (suc (suc (suc zero)))) more) (gcons test block)) = tree.While (expr_of test) (stmts_of block)
  form_of (gcons (gcons (gnum (suc (suc (suc (suc zero))))) more) (gcons value cases)) = tree.Switch (args_of value) (cases_of cases)
  form_of (gcons (gcons (gnum (suc (suc (suc (suc (suc zero)))))) more) (gcons name block)) = tree.Module (args_of name) (stmts_of block)
  form_of (gcons (gcons (gnum (suc (suc (suc (suc (suc (suc zero))))))) more) (gcons name (gcons params block))) =
      tree.Rule (text_of name) (lists_of params) (stmts_of block)
  form_of (gcons (gcons (gnum (suc (suc (suc (suc (suc (suc (suc n)))))))) more) (gcons target (gcons (gnum line) form))) =
      tree.On (arg_of target) line (form_of form)
  form_of g = tree.Include tree.NoArgs

  other_of : Gv → OtherTree
  other_of (gcons gnil block) = tree.ElseBraces (stmts_of block)
  other_of (gcons (gnum line) form) = tree.ElseIf line (form_of form)
  other_of g = tree.Nothing

  stmts_of : Gv → StmtTrees
  stmts_of (gcons (gnum line) (gcons form rest)) = tree.StmtAnd line (form_of form) (stmts_of rest)
  stmts_of g = tree.NoStmts

  cases_of : Gv → CaseTrees
  cases_of (gcons pattern (gcons block rest)) = tree.CaseAnd (text_of pattern) (stmts_of block) (cases_of rest)
  cases_of g = tree.NoCases

mutual
  form_back : (f : FormTree) → form_of (form_g f) ≡ f
  form_back (tree.Local names value) = λ i. tree.Local (args_back names i) (value_back value i)
  form_back (tree.Assign target how value) = λ i. tree.Assign (arg_back target i) (sign_back how i) (args_back value i)
  form_back (tree.AssignOn target on how value) = λ i. tree.AssignOn (arg_back target i) (args_back on i) (sign_back how i) (args_back value i)
  form_back (tree.Include names) = λ i. tree.Include (args_back names i)
  form_back (tree.Return value) = λ i. tree.Return (args_back value i)
  form_back (tree.Actions name t e q body) = λ i. tree.Actions (text_back name i) (bool_back t i) (bool_back e i) (bool_back q i) (text_back body i)
  form_back (tree.Call head given) = λ i. tree.Call (arg_back head i) (given_back given i)
  form_back (tree.Braces block) = λ i. tree.Braces (stmts_back block i)
  form_back (tree.If test block next) = λ i. tree.If (expr_back test i) (stmts_back block i) (other_back next i)
  form_back (tree.For own name items block) = λ i. tree.For (bool_back own i) (text_back name i) (args_back items i) (stmts_back block i)
  form_back (tree.While test block) = λ i. tree.While (expr_back test i) (stmts_back block i)
  form_back (tree.Switch value cases) = λ i. tree.Switch (args_back value i) (cases_back cases i)
  form_back (tree.Module name block) = λ i. tree.Module (args_back name i) (stmts_back block i)
  form_back (tree.Rule name params block) = λ i. tree.Rule (text_back name i) (lists_back params i) (stmts_back block i)
  form_back (tree.On target line form) = λ i. tree.On (arg_back target i) line (form_back form i)

  other_back : (o : OtherTree) → other_of (other_g o) ≡ o
  other_back tree.Nothing = refl
  other_back (tree.ElseBraces block) = λ i. tree.ElseBraces (stmts_back block i)
  other_back (tree.ElseIf line form) = λ i. tree.ElseIf line (form_back form i)

  stmts_back : (ss : StmtTrees) → stmts_of (stmts_g ss) ≡ ss
  stmts_back tree.NoStmts = refl
  stmts_back (tree.StmtAnd line form rest) = λ i. tree.StmtAnd line (form_back form i) (stmts_back rest i)

  cases_back : (cs : CaseTrees) → cases_of (cases_g cs) ≡ cs
  cases_back tree.NoCases = refl
  cases_back (tree.CaseAnd pattern block rest) = λ i. tree.CaseAnd (text_back pattern i) (stmts_back block i) (cases_back rest i)

-- ---- the codes; what computes them does not unfold elsewhere

pub stored_stmts : StmtTrees → Gv
stored_stmts stmts = stmts_g stmts

pub stored_once : (x y : StmtTrees) → stored_stmts x ≡ stored_stmts y → x ≡ y
unfolding stored_stmts
stored_once x y same = sym (stmts_back x) ∙ ap stmts_of same ∙ stmts_back y

abbrev pub stmts_code : Coded StmtTrees
stmts_code = record { code = stored_stmts; inj = stored_once }

pub stored_params : List (List Param) → Gv
stored_params params = lists_g params

pub params_once : (x y : List (List Param)) → stored_params x ≡ stored_params y → x ≡ y
unfolding stored_params
params_once x y same = sym (lists_back x) ∙ ap lists_of same ∙ lists_back y

abbrev pub params_code : Coded (List (List Param))
params_code = record { code = stored_params; inj = params_once }
