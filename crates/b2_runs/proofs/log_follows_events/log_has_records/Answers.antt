use Rattle.b2_runs.proofs.LogHasRecords.{log_has_records}
use Rattle.b2_runs.proofs.log_follows_events.log_has_records.Goals as goal

pub returns : goal.returns
returns c = log_has_records
