use Rattle.std.proofs.Common.{◌≡◌, ℕ, ◌+◌, ◌≤◌, List, drop, length}
use Rattle.std.specs.FinMap as map
use Rattle.b2_plan.specs.Plans.{maker_from}
use Rattle.b2_plan.proofs.makers.makers_of.Given as goal

-- the steps from here on are in the map
abbrev pub invariant-loop-left : goal.invariant-loop-left
invariant-loop-left l = record {
  within : l.left ≤ length l.steps;
  made : (path : List ℕ) → map.get l.makers path ≡ maker_from (l.left + 1) (drop l.left l.steps) path;
}

abbrev pub decreases-loop-left : goal.decreases-loop-left
decreases-loop-left l = l.left
