use Rattle.b2_runs.proofs.NoWorkIsLost.{fresh_though_stopped}
use Rattle.b2_runs.proofs.no_work_is_lost.fresh_though_stopped.Goals as goal

pub returns : goal.returns
returns c = fresh_though_stopped
