use Rattle.b2_runs.proofs.LogTellsOthers.{log_tells_others}
use Rattle.b2_runs.proofs.log_follows_events.log_tells_others.Goals as goal

pub returns : goal.returns
returns c = log_tells_others
