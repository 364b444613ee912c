use Rattle.b2_runs.proofs.LogTellsSteps.{judged_by_log}
use Rattle.b2_runs.proofs.log_follows_events.judged_by_log.Goals as goal

pub returns : goal.returns
returns c = judged_by_log
