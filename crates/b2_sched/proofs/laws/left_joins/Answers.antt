use Rattle.b2_sched.proofs.SetsAgreeWithTheRun.{left_joins}
use Rattle.b2_sched.proofs.laws.left_joins.Goals as goal

pub returns : goal.returns
returns c = left_joins
