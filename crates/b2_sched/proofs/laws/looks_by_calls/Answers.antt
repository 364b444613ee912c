use Rattle.b2_sched.proofs.CallsTellTheState.{looks_by_calls}
use Rattle.b2_sched.proofs.laws.looks_by_calls.Goals as goal

pub returns : goal.returns
returns c = looks_by_calls
