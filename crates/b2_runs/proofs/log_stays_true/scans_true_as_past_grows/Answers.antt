use Rattle.b2_runs.proofs.TrueWithLine.{scans_true_as_past_grows}
use Rattle.b2_runs.proofs.log_stays_true.scans_true_as_past_grows.Goals as goal

pub returns : goal.returns
returns c = scans_true_as_past_grows
