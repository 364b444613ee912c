use Rattle.std.proofs.Common.{ℕ, ◌-◌, ◌<◌, ◌≤◌}
use Rattle.b2_sched.specs.NumberSets.{Has}
use Rattle.b2_sched.proofs.number_set.first_in.Given as goal

-- no flag before this place is set
abbrev pub invariant-loop-place : goal.invariant-loop-place
invariant-loop-place l = record {
  above : l.from ≤ l.place;
  none : (k : ℕ) → l.from ≤ k → k < l.place → Has l.flags k → ⊥;
}

abbrev pub decreases-loop-place : goal.decreases-loop-place
decreases-loop-place l = l.to - l.place
