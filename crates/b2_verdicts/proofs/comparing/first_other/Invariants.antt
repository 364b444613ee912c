use Rattle.std.proofs.Common.{◌≤◌, length}
use Rattle.b2_verdicts.specs.Stamps.{AgreeUpTo}
use Rattle.b2_verdicts.proofs.comparing.first_other.Given as goal

-- the record has the files so far
abbrev pub invariant-loop-place : goal.invariant-loop-place
invariant-loop-place l = record { within : l.place ≤ length l.logged; agree : AgreeUpTo l.facts l.logged l.numbers l.place }
