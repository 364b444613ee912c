use Rattle.b2_runs.proofs.TrueWithLine.{scans_true_with_fewer}
use Rattle.b2_runs.proofs.log_stays_true.scans_true_with_fewer.Goals as goal

pub returns : goal.returns
returns c = scans_true_with_fewer
