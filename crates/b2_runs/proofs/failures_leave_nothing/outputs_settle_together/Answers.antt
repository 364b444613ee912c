use Rattle.b2_runs.proofs.SkippedExactly.{outputs_settle_together}
use Rattle.b2_runs.proofs.failures_leave_nothing.outputs_settle_together.Goals as goal

pub returns : goal.returns
returns c = outputs_settle_together
