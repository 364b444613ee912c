use Rattle.b2_runs.proofs.SkippedExactly.{skipped_exactly}
use Rattle.b2_runs.proofs.failures_leave_nothing.skipped_exactly.Goals as goal

pub returns : goal.returns
returns c = skipped_exactly
