use Rattle.b2_runs.proofs.FailedIsNotSettled.{failed_is_not_settled}
use Rattle.b2_runs.proofs.nothing_is_left.failed_is_not_settled.Goals as goal

pub returns : goal.returns
returns c = failed_is_not_settled
