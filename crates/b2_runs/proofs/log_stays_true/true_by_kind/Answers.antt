use Rattle.b2_runs.proofs.TrueWithLine.{true_by_kind}
use Rattle.b2_runs.proofs.log_stays_true.true_by_kind.Goals as goal

pub returns : goal.returns
returns c = true_by_kind
