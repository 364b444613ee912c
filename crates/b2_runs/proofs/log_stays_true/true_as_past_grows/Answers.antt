use Rattle.b2_runs.proofs.TrueWithLine.{true_as_past_grows}
use Rattle.b2_runs.proofs.log_stays_true.true_as_past_grows.Goals as goal

pub returns : goal.returns
returns c = true_as_past_grows
