use Rattle.std.proofs.Common.{take}
use Rattle.b2_turns.specs.Starts.{HasForgotten}
use Rattle.b2_turns.proofs.starts.forget_all.Given as goal

-- those so far were forgotten
abbrev pub invariant-loop-number : goal.invariant-loop-number
invariant-loop-number l = HasForgotten (take l.number-index l.numbers) l.fn.facts l.facts
