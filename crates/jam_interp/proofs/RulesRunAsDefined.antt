-- A rule that is run, by what the calls in it promise.
use Rattle.std.proofs.Common.{◌≡◌, List, Option, Some, map, Result, sym, ap, ◌∙◌, subst}
use Rattle.std.specs.Option.{option_map}
use Rattle.std.specs.declared.vec.Vec.{Vec}
use Rattle.std.specs.declared.alloc.Global.{Global}
use Rattle.jam_grammar.specs.declared.tree.Param.{Param}
use Rattle.jam_grammar.specs.declared.tree.Block.{Block, out-Block, roll-out-Block}
use Rattle.jam_grammar.specs.declared.tree.Stmt.{Stmt}
use Rattle.jam_grammar.specs.Trees.{block_tree, stmts_tree, lists_of}
use Rattle.jam_grammar.proofs.TreesAreThoseOfElements.{block_is}
use Rattle.jam_journal.specs.Tables.{Text}
use Rattle.jam_journal.specs.Scopes.{Value, leave}
use Rattle.jam_scope.specs.Rules.{Body, Rule, rule_of}
use Rattle.jam_scope.specs.Worlds.{Worlds}
use Rattle.jam_scope.specs.Changes.{rescoped}
use Rattle.jam_meaning.specs.Params.{call_binds}
use Rattle.jam_values.specs.declared.bindings.Bound.{Bound}
use Rattle.jam_values.specs.Bindings.{bindings_of}
use Rattle.jam_effects.specs.declared.at.At.{At}
use Rattle.jam_effects.specs.declared.flow.Flow.{Flow as Way}
use Rattle.jam_effects.specs.declared.fault.EvalFault.{EvalFault}
use Rattle.jam_effects.specs.Framing.{call_entered}
use Rattle.jam_effects.specs.Machines.{Machine}
use Rattle.jam_effects.specs.Does.{Does}
use Rattle.jam_effects.specs.Views.{value, flow_of, IsValueOf}
use Rattle.jam_interp.specs.FunctionParts.{run_rule_at, stmts_at}
use Rattle.jam_interp.proofs.CallsDoAsDefined.{rule_runs}

-- the tree of a block is that of its statements
pub block_shown : (b : Block) → block_tree b ≡ stmts_tree (out-Block b).stmts.items
block_shown b = ap block_tree (sym (roll-out-Block b)) ∙ block_is (out-Block b).stmts

-- what a rule binds, as it was found for its parameters
pub found_binds : (rule : Rule) (body : Body) (params : List (Vec Param Global)) (given : List Value) (found : Option (Vec Bound Global)) → rule_of rule.home body ≡ rule → map (λ (list : Vec Param Global). list.items) params ≡ body.params
    → option_map (λ (made : Vec Bound Global). bindings_of made.items) found ≡ call_binds (lists_of params) given → call_binds rule.params given ≡ option_map (λ (made : Vec Bound Global). bindings_of made.items) found
found_binds rule body params given found is shown bound =
    ap (λ ps. call_binds ps given) (ap (λ (r : Rule). r.params) (sym is) ∙ sym shown) ∙ sym bound

module _ {R : Type 0} where
  pub rule_does : (rule : Rule) (name : Text) (given : List Value) (at : At) (body : Body) (params : List (Vec Param Global)) (found : Option (Vec Bound Global)) (made : Vec Bound Global) (bound : List Bound) (home : Text) (other : Body) (b : Block) (list : List Stmt) (path : Text)
      (m : Machine R) (opened : Worlds) (n : Machine R) (closed : Worlds) (ended : Result Way EvalFault) (result : Result Value EvalFault)
      → rule_of rule.home body ≡ rule → map (λ (one : Vec Param Global). one.items) params ≡ body.params → option_map (λ (one : Vec Bound Global). bindings_of one.items) found ≡ call_binds (lists_of params) given → found ≡ Some made → bound ≡ made.items → home ≡ rule.home
      → rule_of rule.home other ≡ rule → block_tree b ≡ other.block → list ≡ (out-Block b).stmts.items → path ≡ other.path
      → opened ≡ call_entered home (bindings_of bound) m.worlds → Does flow_of (stmts_at list path at.levels) (record m { worlds = opened }) n ended → closed ≡ rescoped leave n.worlds → IsValueOf ended result
      → Does value (run_rule_at rule name given at) m (record n { worlds = closed }) result
  rule_does rule name given at body params found made bound home other b list path m opened n closed ended result is shown binds some same lives is_other tree items placed enters h left ends =
      rule_runs rule name given at (bindings_of made.items) list m opened n closed ended result
      (found_binds rule body params given found is shown binds ∙ ap (option_map (λ (one : Vec Bound Global). bindings_of one.items)) some)
      (ap (λ (r : Rule). r.block) (sym is_other) ∙ sym tree ∙ block_shown b ∙ ap stmts_tree (sym items))
      (enters ∙ ap (λ l. call_entered home (bindings_of l) m.worlds) same ∙ ap (λ t. call_entered t (bindings_of made.items) m.worlds) lives)
      (subst (λ p. Does flow_of (stmts_at list p at.levels) (record m { worlds = opened }) n ended) (placed ∙ ap (λ (r : Rule). r.path) is_other) h)
      left ends
