use Rattle.b2_runs.proofs.LogIsNoted.{log_is_noted}
use Rattle.b2_runs.proofs.log_follows_events.log_is_noted.Goals as goal

pub returns : goal.returns
returns c = log_is_noted
