use Rattle.b2_runs.proofs.BegunUpToStart.{begun_up_to_start}
use Rattle.b2_runs.proofs.no_work_is_lost.begun_up_to_start.Goals as goal

pub returns : goal.returns
returns c = begun_up_to_start
