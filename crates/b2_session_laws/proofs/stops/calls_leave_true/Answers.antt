use Rattle.b2_sessions.proofs.CallsLeaveTrueLogs.{calls_leave_true}
use Rattle.b2_session_laws.proofs.stops.calls_leave_true.Goals as goal

pub returns : goal.returns
returns c = calls_leave_true
