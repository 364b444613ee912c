use Rattle.b2_runs.proofs.LastLineIsFound.{others_unsaid}
use Rattle.b2_runs.proofs.log_stays_true.others_unsaid.Goals as goal

pub returns : goal.returns
returns c = others_unsaid
