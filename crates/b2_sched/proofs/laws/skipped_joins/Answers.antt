use Rattle.b2_sched.proofs.SetsAgreeWithTheRun.{skipped_joins}
use Rattle.b2_sched.proofs.laws.skipped_joins.Goals as goal

pub returns : goal.returns
returns c = skipped_joins
