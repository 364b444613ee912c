use Rattle.b2_runs.proofs.ChildrenFollowEvents.{end_is_open}
use Rattle.b2_runs.proofs.children_follow_events.end_is_open.Goals as goal

pub returns : goal.returns
returns c = end_is_open
