use Rattle.b2_sched.proofs.StartsAgreeWithTheRun.{can_start_joins}
use Rattle.b2_sched.proofs.laws.can_start_joins.Goals as goal

pub returns : goal.returns
returns c = can_start_joins
