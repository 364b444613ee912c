use Rattle.b2_runs.proofs.LastLineIsFound.{scan_is_there}
use Rattle.b2_runs.proofs.log_stays_true.scan_is_there.Goals as goal

pub returns : goal.returns
returns c = scan_is_there
