use Rattle.b2_session_laws.proofs.PromisesMakeCalls.{builds_are_calls}
use Rattle.b2_session_laws.proofs.calls.builds_are_calls.Goals as goal

pub returns : goal.returns
returns c = builds_are_calls
