use Rattle.b2_cost.proofs.HousedStepsAreApart.{plan_is_apart}
use Rattle.b2_cost.proofs.project.plan_with.Goals as goal

pub returns : goal.returns
returns c =
    plan_is_apart c.are_housed.result c.in_ok-roots.roots c.as_slice.result.now c.in_ok-new.field-0.roots
    c.args.steps c.as_slice-2.result.now c.in_ok-new.field-0.steps
    c.if-not-are_housed.false c.as_slice.ensures c.as_slice-2.ensures c.are_housed.ensures
    c.in_ok-roots.ensures c.requires.apart c.in_ok-new.ensures.steps c.in_ok-new.ensures.roots
