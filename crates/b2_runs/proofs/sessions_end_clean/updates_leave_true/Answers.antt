use Rattle.b2_runs.proofs.TrueThroughSession.{updates_leave_true}
use Rattle.b2_runs.proofs.sessions_end_clean.updates_leave_true.Goals as goal

pub returns : goal.returns
returns c = updates_leave_true
