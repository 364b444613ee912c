use Rattle.b2_runs.proofs.HoweverRun.{fresh_however_run}
use Rattle.b2_runs.proofs.judged_however_run.fresh_however_run.Goals as goal

pub returns : goal.returns
returns c = fresh_however_run
