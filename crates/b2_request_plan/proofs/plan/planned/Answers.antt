use Rattle.std.proofs.Common.{◌∙◌}
use Rattle.b2_request_plan.proofs.PlanIsWhatWasGenerated.{are_apart}
use Rattle.b2_request_plan.proofs.plan.planned.Goals as goal

pub returns-clause-seen : goal.returns-clause-seen
returns-clause-seen c = λ i. record {
  steps = (c.in_ok-plan.ensures.steps ∙ c.into_steps.ensures.steps) i;
  wanted = (c.in_ok-plan.ensures.wanted ∙ c.in_ok-made.ensures.wanted) i;
  roots = (c.in_ok-plan.ensures.roots ∙ c.in_ok-made.ensures.roots) i;
  rows = c.in_ok-made.ensures.rows i;
  table = c.in_ok-made.ensures.table i;
}

pub returns-clause-apart : goal.returns-clause-apart
returns-clause-apart c =
    are_apart c.args.roots.now c.in_ok-plan.plan.roots c.args.builder c.into_steps.result c.in_ok-plan.plan.steps c.into_steps.ensures.steps c.in_ok-plan.ensures.steps
    (c.in_ok-plan.ensures.roots ∙ c.in_ok-made.ensures.roots) c.into_steps.ensures.apart c.requires
