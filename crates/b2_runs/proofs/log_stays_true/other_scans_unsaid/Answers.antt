use Rattle.b2_runs.proofs.LastLineIsFound.{scans_unsaid}
use Rattle.b2_runs.proofs.log_stays_true.other_scans_unsaid.Goals as goal

pub returns : goal.returns
returns c = scans_unsaid
