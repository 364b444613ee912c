use Rattle.b2_runs.proofs.LastLineIsFound.{others_unsaid_though_torn}
use Rattle.b2_runs.proofs.log_stays_true.others_unsaid_though_torn.Goals as goal

pub returns : goal.returns
returns c = others_unsaid_though_torn
