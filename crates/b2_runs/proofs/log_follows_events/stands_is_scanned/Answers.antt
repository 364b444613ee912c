use Rattle.b2_runs.proofs.ReadsLeaveLines.{stands_is_scanned}
use Rattle.b2_runs.proofs.log_follows_events.stands_is_scanned.Goals as goal

pub returns : goal.returns
returns c = stands_is_scanned
