use Rattle.b2_runs.proofs.OpenStepsHaveChildren.{open_steps_after_start}
use Rattle.b2_runs.proofs.children_follow_events.open_steps_after_start.Goals as goal

pub returns : goal.returns
returns c = open_steps_after_start
