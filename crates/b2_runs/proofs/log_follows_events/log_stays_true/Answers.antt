use Rattle.b2_runs.proofs.LogStaysTrue.{log_stays_true}
use Rattle.b2_runs.proofs.log_follows_events.log_stays_true.Goals as goal

pub returns : goal.returns
returns c = log_stays_true
