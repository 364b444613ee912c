use Rattle.b2_runs.proofs.PlanChildMayStart.{plan_children_as_one_settles}
use Rattle.b2_runs.proofs.children_follow_events.plan_children_as_one_settles.Goals as goal

pub returns : goal.returns
returns c = plan_children_as_one_settles
