use Rattle.b2_runs.proofs.TrueWithLine.{empty_is_true}
use Rattle.b2_runs.proofs.log_stays_true.empty_is_true.Goals as goal

pub returns : goal.returns
returns c = empty_is_true
