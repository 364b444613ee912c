use Rattle.b2_runs.proofs.NoneIsLeftOut.{scanned_after_start}
use Rattle.b2_runs.proofs.log_follows_events.scanned_after_start.Goals as goal

pub returns : goal.returns
returns c = scanned_after_start
