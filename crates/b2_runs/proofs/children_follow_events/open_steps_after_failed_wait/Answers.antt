use Rattle.b2_runs.proofs.OpenStepsHaveChildren.{open_steps_after_failed_wait}
use Rattle.b2_runs.proofs.children_follow_events.open_steps_after_failed_wait.Goals as goal

pub returns : goal.returns
returns c = open_steps_after_failed_wait
