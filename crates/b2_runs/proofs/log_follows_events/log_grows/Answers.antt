use Rattle.b2_runs.proofs.LogTellsOthers.{log_grows}
use Rattle.b2_runs.proofs.log_follows_events.log_grows.Goals as goal

pub returns : goal.returns
returns c = log_grows
