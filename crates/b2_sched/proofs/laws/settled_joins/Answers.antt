use Rattle.b2_sched.proofs.StartsAgreeWithTheRun.{settled_joins}
use Rattle.b2_sched.proofs.laws.settled_joins.Goals as goal

pub returns : goal.returns
returns c = settled_joins
