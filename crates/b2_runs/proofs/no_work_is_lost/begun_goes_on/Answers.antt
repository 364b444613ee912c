use Rattle.b2_runs.proofs.BegunUpToStart.{begun_goes_on}
use Rattle.b2_runs.proofs.no_work_is_lost.begun_goes_on.Goals as goal

pub returns : goal.returns
returns c = begun_goes_on
