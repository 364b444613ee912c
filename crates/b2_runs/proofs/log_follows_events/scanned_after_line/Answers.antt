use Rattle.b2_runs.proofs.NoneIsLeftOut.{scanned_after_line}
use Rattle.b2_runs.proofs.log_follows_events.scanned_after_line.Goals as goal

pub returns : goal.returns
returns c = scanned_after_line
