use Rattle.b2_sched.proofs.SetsAgreeWithTheRun.{cycle_joins}
use Rattle.b2_sched.proofs.laws.cycle_joins.Goals as goal

pub returns : goal.returns
returns c = cycle_joins
