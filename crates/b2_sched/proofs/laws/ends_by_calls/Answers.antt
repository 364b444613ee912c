use Rattle.b2_sched.proofs.CallsTellTheState.{ends_by_calls}
use Rattle.b2_sched.proofs.laws.ends_by_calls.Goals as goal

pub returns : goal.returns
returns c = ends_by_calls
