use Rattle.b2_runs.proofs.HoweverRun.{settled_however_run}
use Rattle.b2_runs.proofs.judged_however_run.settled_however_run.Goals as goal

pub returns : goal.returns
returns c = settled_however_run
