use Rattle.b2_sched.proofs.CallsTellTheState.{needs_by_calls}
use Rattle.b2_sched.proofs.laws.needs_by_calls.Goals as goal

pub returns : goal.returns
returns c = needs_by_calls
