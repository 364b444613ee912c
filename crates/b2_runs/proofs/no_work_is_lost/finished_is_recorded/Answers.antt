use Rattle.b2_runs.proofs.NoWorkIsLost.{finished_is_recorded}
use Rattle.b2_runs.proofs.no_work_is_lost.finished_is_recorded.Goals as goal

pub returns : goal.returns
returns c = finished_is_recorded
