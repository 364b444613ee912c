use Rattle.b2_runs.proofs.NoneIsLeftOut.{migrated_after_start}
use Rattle.b2_runs.proofs.log_follows_events.migrated_after_start.Goals as goal

pub returns : goal.returns
returns c = migrated_after_start
