use Rattle.b2_sched.proofs.StartsAgreeWithTheRun.{none_joins}
use Rattle.b2_sched.proofs.laws.none_joins.Goals as goal

pub returns : goal.returns
returns c = none_joins
