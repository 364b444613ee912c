use Rattle.b2_runs.proofs.LogTellsSteps.{log_tells_unstarted}
use Rattle.b2_runs.proofs.log_follows_events.log_tells_unstarted.Goals as goal

pub returns : goal.returns
returns c = log_tells_unstarted
