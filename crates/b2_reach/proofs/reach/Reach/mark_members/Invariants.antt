use Rattle.std.proofs.Common.{take}
use Rattle.b2_reach.specs.Steps.{AreMarked}
use Rattle.b2_reach.proofs.reach.Reach.mark_members.Given as goal

-- the members so far are marked
abbrev pub invariant-loop-number : goal.invariant-loop-number
invariant-loop-number l = AreMarked l.marks (take l.number-index l.number-items)
