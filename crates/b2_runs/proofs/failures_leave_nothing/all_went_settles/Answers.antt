use Rattle.b2_runs.proofs.SkippedExactly.{all_went_settles}
use Rattle.b2_runs.proofs.failures_leave_nothing.all_went_settles.Goals as goal

pub returns : goal.returns
returns c = all_went_settles
