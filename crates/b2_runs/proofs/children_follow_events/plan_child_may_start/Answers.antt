use Rattle.b2_runs.proofs.PlanChildMayStart.{plan_child_may_start}
use Rattle.b2_runs.proofs.children_follow_events.plan_child_may_start.Goals as goal

pub returns : goal.returns
returns c = plan_child_may_start
