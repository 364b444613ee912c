use Rattle.b2_runs.proofs.SkippedExactly.{all_went_by_settled}
use Rattle.b2_runs.proofs.failures_leave_nothing.all_went_by_settled.Goals as goal

pub returns : goal.returns
returns c = all_went_by_settled
