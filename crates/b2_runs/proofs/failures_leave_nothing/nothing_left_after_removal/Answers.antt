use Rattle.b2_runs.proofs.FailuresLeaveNothing.{nothing_left_after_removal}
use Rattle.b2_runs.proofs.failures_leave_nothing.nothing_left_after_removal.Goals as goal

pub returns : goal.returns
returns c = nothing_left_after_removal
