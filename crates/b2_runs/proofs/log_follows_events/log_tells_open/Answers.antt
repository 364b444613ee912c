use Rattle.b2_runs.proofs.LogTellsSteps.{log_tells_open}
use Rattle.b2_runs.proofs.log_follows_events.log_tells_open.Goals as goal

pub returns : goal.returns
returns c = log_tells_open
