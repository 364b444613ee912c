use Rattle.b2_runs.proofs.NoWorkIsLost.{not_started_again}
use Rattle.b2_runs.proofs.no_work_is_lost.not_started_again.Goals as goal

pub returns : goal.returns
returns c = not_started_again
