use Rattle.b2_runs.proofs.HoweverRun.{needed_however_run}
use Rattle.b2_runs.proofs.judged_however_run.needed_however_run.Goals as goal

pub returns : goal.returns
returns c = needed_however_run
