use Rattle.std.proofs.Common.{take}
use Rattle.b2_board.specs.Needs.{TellsNeeds}
use Rattle.b2_board.proofs.needs.tell_needs.Given as goal

-- the needs so far were told
abbrev pub invariant-loop-need : goal.invariant-loop-need
invariant-loop-need l = TellsNeeds l.step (take l.need-index l.on) l.fn.sched l.sched
