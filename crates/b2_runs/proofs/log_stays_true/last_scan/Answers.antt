use Rattle.b2_runs.proofs.LastLineIsFound.{last_scan}
use Rattle.b2_runs.proofs.log_stays_true.last_scan.Goals as goal

pub returns : goal.returns
returns c = last_scan
