use Rattle.b2_runs.proofs.ChildrenFollowEvents.{at_work_after_start}
use Rattle.b2_runs.proofs.children_follow_events.at_work_after_start.Goals as goal

pub returns : goal.returns
returns c = at_work_after_start
