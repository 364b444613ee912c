use Rattle.b2_runs.proofs.TrueWithLine.{true_with_line}
use Rattle.b2_runs.proofs.log_stays_true.true_with_line.Goals as goal

pub returns : goal.returns
returns c = true_with_line
