use Rattle.b2_sched.proofs.SetsAgreeWithTheRun.{needed_joins}
use Rattle.b2_sched.proofs.laws.needed_joins.Goals as goal

pub returns : goal.returns
returns c = needed_joins
