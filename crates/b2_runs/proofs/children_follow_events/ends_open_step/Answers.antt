use Rattle.b2_runs.proofs.OpenStepsHaveChildren.{ends_open_step}
use Rattle.b2_runs.proofs.children_follow_events.ends_open_step.Goals as goal

pub returns : goal.returns
returns c = ends_open_step
