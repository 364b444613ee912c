use Rattle.b2_runs.proofs.NoWorkIsLost.{no_work_is_lost}
use Rattle.b2_runs.proofs.no_work_is_lost.no_work_is_lost.Goals as goal

pub returns : goal.returns
returns c = no_work_is_lost
