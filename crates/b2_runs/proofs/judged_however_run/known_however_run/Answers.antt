use Rattle.b2_runs.proofs.HoweverRun.{known_however_run}
use Rattle.b2_runs.proofs.judged_however_run.known_however_run.Goals as goal

pub returns : goal.returns
returns c = known_however_run
