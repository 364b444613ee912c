use Rattle.b2_runs.proofs.ChildrenFollowEvents.{given_after_start}
use Rattle.b2_runs.proofs.children_follow_events.given_after_start.Goals as goal

pub returns : goal.returns
returns c = given_after_start
