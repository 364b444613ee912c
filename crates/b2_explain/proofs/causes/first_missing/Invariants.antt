use Rattle.std.proofs.Common.{take}
use Rattle.b2_explain.proofs.FirstMembers.{IsMissingFile, IsBest}
use Rattle.b2_explain.proofs.causes.first_missing.Given as goal

-- of the members so far the first one that is missing
abbrev pub invariant-loop-number : goal.invariant-loop-number
invariant-loop-number l = IsBest l.facts (IsMissingFile l.facts) (take l.number-index l.members) l.best
