use Rattle.b2_session_laws.proofs.PromisesMakeCalls.{jam_builds_are_calls}
use Rattle.b2_session_laws.proofs.calls.jam_builds_are_calls.Goals as goal

pub returns : goal.returns
returns c = jam_builds_are_calls
