use Rattle.b2_runs.proofs.SkippedExactly.{skipped_where_quits}
use Rattle.b2_runs.proofs.failures_leave_nothing.skipped_where_quits.Goals as goal

pub returns : goal.returns
returns c = skipped_where_quits
