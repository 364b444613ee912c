use Rattle.b2_runs.proofs.BegunUpToStart.{begun_holds_earlier}
use Rattle.b2_runs.proofs.no_work_is_lost.begun_holds_earlier.Goals as goal

pub returns : goal.returns
returns c = begun_holds_earlier
