use Rattle.b2_verdicts.specs.Stamps.{AgreeUpTo}
use Rattle.b2_explain.proofs.checks.is_other_output.Given as goal

-- the record has the outputs so far
abbrev pub invariant-loop-place : goal.invariant-loop-place
invariant-loop-place l = AgreeUpTo l.facts l.last.outs l.outs l.place
