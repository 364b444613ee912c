use Rattle.std.proofs.Common.{◌≡◌, ◌++◌, ℕ, List, take, drop, is_some}
use Rattle.std.specs.FinMap as map
use Rattle.b2_props.specs.Refinement.{names, components, completed, completed_from}
use Rattle.b2_props.proofs.refinement.complete.Given as goal

-- what is there, with what the pairs to come add, is the whole list; the components of the pairs so far are taken
abbrev pub invariant-loop-pair : goal.invariant-loop-pair
invariant-loop-pair l = record {
  whole : l.whole.items ++ completed_from l.registry (l.required ++ components l.registry (take l.pair-index l.required)) (drop l.pair-index l.required) ≡ completed l.registry l.required;
  taken : (feature : List ℕ) → is_some (map.get l.taken feature) ≡ names (l.required ++ components l.registry (take l.pair-index l.required)) feature;
}
