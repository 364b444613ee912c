use Rattle.b2_verdicts.specs.Stamps.{AgreeUpTo}
use Rattle.b2_explain.proofs.checks.agree_up_to.Given as goal

-- the record has the files so far
abbrev pub invariant-loop-place : goal.invariant-loop-place
invariant-loop-place l = AgreeUpTo l.facts l.logged l.ns l.place
