use Rattle.b2_runs.proofs.LogHasRecords.{log_drops_failed}
use Rattle.b2_runs.proofs.log_follows_events.log_drops_failed.Goals as goal

pub returns : goal.returns
returns c = log_drops_failed
