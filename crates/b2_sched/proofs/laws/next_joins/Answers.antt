use Rattle.b2_sched.proofs.StartsAgreeWithTheRun.{next_joins}
use Rattle.b2_sched.proofs.laws.next_joins.Goals as goal

pub returns : goal.returns
returns c = next_joins
