use Rattle.std.proofs.Common.{List}
use Rattle.b2_plan.specs.declared.step.Step.{Step}
use Rattle.b2_making.specs.Acts.{for_each}
use Rattle.b2_making.specs.Contexts.{context_of, site_of}
use Rattle.b2_evaluator.specs.Answers.{Answers}
use Rattle.b2_making.specs.Steps.{places}
use Rattle.b2_making.proofs.ActsCompose.{IsSoFar}
use Rattle.b2_making.proofs.place.place_all.Given as goal

-- the outputs so far have their paths
abbrev pub invariant-loop-output : goal.invariant-loop-output
invariant-loop-output g l =
    (told : Answers g.row.F.Denot) (before : List Step) → IsSoFar (for_each (places (context_of told l.setting) (site_of l.site))) l.outputs l.output-index l.made before before
