use Rattle.b2_runs.proofs.NoneIsLeftOut.{to_scan_after_end}
use Rattle.b2_runs.proofs.log_follows_events.to_scan_after_end.Goals as goal

pub returns : goal.returns
returns c = to_scan_after_end
