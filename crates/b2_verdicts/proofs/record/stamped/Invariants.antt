use Rattle.std.proofs.Common.{◌≡◌, length}
use Rattle.b2_verdicts.specs.Stamps.{AgreeUpTo}
use Rattle.b2_verdicts.proofs.record.stamped.Given as goal

-- the files so far with their stamps
abbrev pub invariant-loop-number : goal.invariant-loop-number
invariant-loop-number l = record { count : length l.made ≡ l.number-index; agree : AgreeUpTo l.facts l.made l.numbers l.number-index }
