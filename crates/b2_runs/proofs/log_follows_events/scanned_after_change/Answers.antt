use Rattle.b2_runs.proofs.LogStaysTrue.{scanned_after_change}
use Rattle.b2_runs.proofs.log_follows_events.scanned_after_change.Goals as goal

pub returns : goal.returns
returns c = scanned_after_change
