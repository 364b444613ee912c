use Rattle.std.proofs.Common.{◌≡◌, ◌≤◌, ℕ, List, drop, length, is_some}
use Rattle.std.specs.List.{flat_map}
use Rattle.std.specs.FinMap as map
use Rattle.b2_props.specs.Sets.{Pair}
use Rattle.b2_props.specs.Refinement.{names}
use Rattle.b2_alternatives.specs.Usage.{yielding}
use Rattle.b2_alternatives.proofs.usage.yielding.Given as goal

-- the levels from this place on are done, and their features are taken
abbrev pub invariant-loop-place : goal.invariant-loop-place
invariant-loop-place l = record {
  within : l.place ≤ length l.levels;
  made : l.made ≡ yielding l.registry (drop l.place l.levels);
  taken : (feature : List ℕ) → is_some (map.get l.taken feature) ≡ names (flat_map (λ (pairs : List Pair). pairs) (drop l.place l.levels)) feature;
}

abbrev pub decreases-loop-place : goal.decreases-loop-place
decreases-loop-place l = l.place
