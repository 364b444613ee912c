use Rattle.b2_sched.proofs.SetsAgreeWithTheRun.{none_stuck_joins}
use Rattle.b2_sched.proofs.laws.none_stuck_joins.Goals as goal

pub returns : goal.returns
returns c = none_stuck_joins
