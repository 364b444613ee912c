use Rattle.b2_runs.proofs.FailuresLeaveNothing.{nothing_left_through_work}
use Rattle.b2_runs.proofs.failures_leave_nothing.nothing_left_through_work.Goals as goal

pub returns : goal.returns
returns c = nothing_left_through_work
