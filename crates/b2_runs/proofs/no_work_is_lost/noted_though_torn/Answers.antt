use Rattle.b2_runs.proofs.BegunUpToStart.{noted_though_torn}
use Rattle.b2_runs.proofs.no_work_is_lost.noted_though_torn.Goals as goal

pub returns : goal.returns
returns c = noted_though_torn
