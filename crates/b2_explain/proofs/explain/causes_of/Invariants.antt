use Rattle.b2_explain.proofs.StepsAreExplained.{AreToldBefore}
use Rattle.b2_explain.proofs.explain.causes_of.Given as goal

-- the needed steps before the place are told, each with its cause
abbrev pub invariant-loop-place : goal.invariant-loop-place
invariant-loop-place l = AreToldBefore l.plan l.survey l.place l.whys
