use Rattle.b2_runs.proofs.LogStaysTrue.{migrated_after_change}
use Rattle.b2_runs.proofs.log_follows_events.migrated_after_change.Goals as goal

pub returns : goal.returns
returns c = migrated_after_change
