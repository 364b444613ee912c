use Rattle.std.proofs.Common.{ℕ, take}
use Rattle.std.specs.List.{Contains}
use Rattle.b2_sched.specs.Schedules.{IsSettled}
use Rattle.b2_reach.specs.Steps.{WaitsOn}
use Rattle.b2_reach.proofs.reach.any_settled.Given as goal

-- the makers of those so far are not settled
abbrev pub invariant-loop-number : goal.invariant-loop-number
invariant-loop-number l = (n : ℕ) → Contains (take l.number-index l.pending) n → WaitsOn (IsSettled l.sched) l.facts n
