use Rattle.b2_runs.proofs.PlanChildMayStart.{plan_children_after_end}
use Rattle.b2_runs.proofs.children_follow_events.plan_children_after_end.Goals as goal

pub returns : goal.returns
returns c = plan_children_after_end
