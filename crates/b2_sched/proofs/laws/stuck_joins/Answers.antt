use Rattle.b2_sched.proofs.SetsAgreeWithTheRun.{stuck_joins}
use Rattle.b2_sched.proofs.laws.stuck_joins.Goals as goal

pub returns : goal.returns
returns c = stuck_joins
