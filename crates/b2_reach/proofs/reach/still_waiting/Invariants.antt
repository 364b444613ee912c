use Rattle.std.proofs.Common.{◌⊎◌, ℕ, take}
use Rattle.std.specs.List.{Contains}
use Rattle.b2_sched.specs.Schedules.{IsSettled}
use Rattle.b2_reach.specs.Files.{IsOfSettled}
use Rattle.b2_reach.specs.Steps.{WaitsOn}
use Rattle.b2_reach.proofs.reach.still_waiting.Given as goal

-- those so far are kept, or their makers are settled
abbrev pub invariant-loop-number : goal.invariant-loop-number
invariant-loop-number l = record {
  each : (n : ℕ) → Contains l.kept n → Contains l.pending n × WaitsOn (IsSettled l.sched) l.facts n;
  whole : (n : ℕ) → Contains (take l.number-index l.pending) n → Contains l.kept n ⊎ IsOfSettled (IsSettled l.sched) l.facts n;
}
