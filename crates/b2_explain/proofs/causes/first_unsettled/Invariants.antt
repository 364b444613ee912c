use Rattle.std.proofs.Common.{take}
use Rattle.b2_explain.proofs.FirstMembers.{IsUnsettledFile, IsBest}
use Rattle.b2_explain.proofs.causes.first_unsettled.Given as goal

-- of the members so far the first one that waits
abbrev pub invariant-loop-number : goal.invariant-loop-number
invariant-loop-number l = IsBest l.facts (IsUnsettledFile l.sched l.facts) (take l.number-index l.members) l.best
