-- What a tree does is what the code's value of that tree does.
use Rattle.std.proofs.Common.{◌≡◌, Bool, List, [], Option, Some, None, Result, Ok, Err, OnOk, OnErr, IfOk, IfErr, sym, ap, ◌∙◌, subst}
use Rattle.std.specs.declared.vec.Vec.{Vec}
use Rattle.std.specs.declared.alloc.Global.{Global}
use Rattle.jam_grammar.specs.declared.tree.Expr.{Expr}
use Rattle.jam_grammar.specs.declared.tree.Expr.TheVariants as exprs
use Rattle.jam_grammar.specs.declared.tree.Form.{Form}
use Rattle.jam_grammar.specs.declared.tree.Form.TheVariants as forms
use Rattle.jam_grammar.specs.declared.tree.Arg.{Arg}
use Rattle.jam_grammar.specs.declared.tree.Case.{Case}
use Rattle.jam_grammar.specs.declared.tree.Block.{Block, out-Block, roll-out-Block}
use Rattle.jam_grammar.specs.declared.tree.Other.{Other}
use Rattle.jam_grammar.specs.Trees as tree
use Rattle.jam_grammar.specs.Trees.{ExprTree, FormTree, OtherTree, expr_tree, exprs_tree, form_tree, other_tree, args_tree, block_tree, stmts_tree, cases_tree}
use Rattle.jam_grammar.proofs.TreesAreThoseOfElements.{or_is, and_is, block_is, switch_is}
use Rattle.jam_journal.specs.Scopes.{Value}
use Rattle.jam_scope.specs.Worlds.{World, Worlds}
use Rattle.jam_scope.specs.Changes.{changed}
use Rattle.jam_meaning.specs.Settings.{Setting}
use Rattle.jam_meaning.specs.Outcomes.{Flow, gives, goes_on}
use Rattle.jam_meaning.specs.Forms.{other}
use Rattle.jam_effects.specs.declared.at.At.{At}
use Rattle.jam_effects.specs.declared.flow.Flow.{Flow as Way}
use Rattle.jam_effects.specs.declared.flow.Flow.TheVariants as ways
use Rattle.jam_effects.specs.declared.fault.EvalFault.{EvalFault}
use Rattle.jam_effects.specs.declared.fault.EvalFault.TheVariants as fault
use Rattle.jam_effects.specs.Spots.{spot_of}
use Rattle.jam_effects.specs.Machines.{Machine, state_of}
use Rattle.jam_effects.specs.Naming.{SameFrames}
use Rattle.jam_effects.specs.Does.{Does}
use Rattle.jam_effects.specs.Views.{value, truth, flow_of, What}
use Rattle.jam_interp.specs.FunctionParts.{args_at, local_value_at, deep, expr_at, any_of_at, all_of_at, form_at, form_by, other_at, switch_at}
use Rattle.jam_effects.proofs.OrderedCallsDoAsDefined.{value_now}
use Rattle.jam_interp.proofs.ChangesDoAsDefined.{puts}
use Rattle.jam_interp.proofs.ConditionsDoAsDefined.{test_at}
use Rattle.jam_interp.proofs.TargetBracketsDoAsDefined.{memory_here}

-- the statements of a block
pub block_holds : (block : Block) → block_tree block ≡ stmts_tree (out-Block block).stmts.items
block_holds block = ap block_tree (sym (roll-out-Block block)) ∙ block_is (out-Block block).stmts

module _ {R : Type 0} where
  -- ---- conditions

  pub test_does : (test : Expr) (t : ExprTree) (at : At) (a b : Machine R) (result : Result Bool EvalFault) → expr_tree test ≡ t → Does truth (test_at t at) a b result → Does truth (expr_at test at) a b result
  test_does test t at a b result is h = subst (λ x. Does truth (test_at x at) a b result) (sym is) h

  pub or_does : (test : Expr) (members : Vec Expr Global) (list : List Expr) (at : At) (a b : Machine R) (result : Result Bool EvalFault) → test ≡ exprs.Or members → list ≡ members.items
      → Does truth (any_of_at list at) a b result → Does truth (expr_at test at) a b result
  or_does test members list at a b result is same h = test_does test (tree.Or (exprs_tree list)) at a b result (ap expr_tree is ∙ or_is members ∙ ap (λ l. tree.Or (exprs_tree l)) (sym same)) h

  pub and_does : (test : Expr) (members : Vec Expr Global) (list : List Expr) (at : At) (a b : Machine R) (result : Result Bool EvalFault) → test ≡ exprs.And members → list ≡ members.items
      → Does truth (all_of_at list at) a b result → Does truth (expr_at test at) a b result
  and_does test members list at a b result is same h = test_does test (tree.And (exprs_tree list)) at a b result (ap expr_tree is ∙ and_is members ∙ ap (λ l. tree.And (exprs_tree l)) (sym same)) h

  -- ---- statements

  pub form_does : (f : Form) (t : FormTree) (at : At) (a b : Machine R) (result : Result Way EvalFault) → form_tree f ≡ t → Does flow_of (form_by t at) a b result → Does flow_of (form_at f at) a b result
  form_does f t at a b result is h = subst (λ x. Does flow_of (form_by x at) a b result) (sym is) h

  pub switch_does : (f : Form) (value : Vec Arg Global) (cases : Vec Case Global) (list : List Arg) (rows : List Case) (at : At) (a b : Machine R) (result : Result Way EvalFault) → f ≡ forms.Switch value cases → list ≡ value.items → rows ≡ cases.items
      → Does flow_of (switch_at list rows at) a b result → Does flow_of (form_at f at) a b result
  switch_does f value cases list rows at a b result is same as_many h =
      form_does f (tree.Switch (args_tree list) (cases_tree rows)) at a b result
      (ap form_tree is ∙ switch_is value cases ∙ ap (λ l. tree.Switch (args_tree l) (cases_tree cases.items)) (sym same) ∙ ap (λ l. tree.Switch (args_tree list) (cases_tree l)) (sym as_many)) h

  pub other_does : (next : Other) (t : OtherTree) (at : At) (a b : Machine R) (result : Result Way EvalFault) → other_tree next ≡ t → Does flow_of (λ setting s. other setting (deep at setting) t (spot_of at) s) a b result → Does flow_of (other_at next at) a b result
  other_does next t at a b result is h = subst (λ x. Does flow_of (λ setting s. other setting (deep at setting) x (spot_of at) s) a b result) (sym is) h

  -- something is defined, unless memory ran out
  pub defines : (what : What R Flow) (change : World → World) (m : Machine R) (ws : Worlds) (result : Result Way EvalFault) → SameFrames m.worlds (changed change m.worlds)
      → ((setting : Setting R) → what setting (state_of m) ≡ gives goes_on (state_of (record m { worlds = changed change m.worlds })))
      → OnOk result (ws ≡ changed change m.worlds) → IfOk result (λ way. way ≡ ways.GoesOn) → IfErr result (λ e. e ≡ fault.OutOfMemory) → OnErr result (ws ≡ m.worlds)
      → Does flow_of what m (record m { worlds = ws }) result
  defines what change m ws (Ok way) same is ok goes memory err =
      subst (λ w. Does flow_of what m (record m { worlds = ws }) (Ok w)) (sym goes)
      (puts flow_of what m ws ways.GoesOn (subst (λ w. SameFrames m.worlds w) (sym ok) same) (λ setting right. is setting ∙ ap (λ w. gives goes_on (state_of (record m { worlds = w }))) (sym ok)))
  defines what change m ws (Err e) same is ok goes memory err = memory_here flow_of what m ws e err memory

  -- the value that names are bound to
  pub value_given : (list : Option (Vec Arg Global)) (given : Vec Arg Global) (items : List Arg) (at : At) (a b : Machine R) (result : Result Value EvalFault) → list ≡ Some given → items ≡ given.items
      → Does value (args_at items at) a b result → Does value (local_value_at list at) a b result
  value_given list given items at a b result is same h =
      subst (λ l. Does value (local_value_at l at) a b result) (sym is) (subst (λ l. Does value (args_at l at) a b result) same h)

  pub value_empty : (list : Option (Vec Arg Global)) (v : Value) (at : At) (m : Machine R) → list ≡ None → v ≡ [] → Does value (local_value_at list at) m m (Ok v)
  value_empty list v at m is none =
      subst (λ l. Does value (local_value_at l at) m m (Ok v)) (sym is) (value_now value (local_value_at None at) m v (λ setting right. ap (λ u. gives u (state_of m)) (sym none)))
