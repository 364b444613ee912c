use Rattle.std.proofs.Common.{◌⊎◌, ℕ, length}
use Rattle.std.specs.List.{Contains}
use Rattle.b2_sched.specs.Schedules.{IsSettled}
use Rattle.b2_board.proofs.waiting.Waiting.is_over.Given as goal

-- what was taken off is settled, and what is left was there
abbrev pub invariant-loop-number : goal.invariant-loop-number
invariant-loop-number l = record {
  fewer : (k : ℕ) → Contains l.self-inside.numbers.items k → Contains l.fn.self k;
  rest : (k : ℕ) → Contains l.fn.self k → IsSettled l.sched k ⊎ Contains l.self-inside.numbers.items k;
}

abbrev pub decreases-loop-number : goal.decreases-loop-number
decreases-loop-number l = length l.self-inside.numbers.items
