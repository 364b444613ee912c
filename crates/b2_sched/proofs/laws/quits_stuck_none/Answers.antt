use Rattle.b2_sched.proofs.SetsAgreeWithTheRun.{quits_stuck_none}
use Rattle.b2_sched.proofs.laws.quits_stuck_none.Goals as goal

pub returns : goal.returns
returns c = quits_stuck_none
