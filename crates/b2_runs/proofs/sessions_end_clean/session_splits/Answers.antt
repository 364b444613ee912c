use Rattle.b2_runs.proofs.SessionEndsClean.{session_splits}
use Rattle.b2_runs.proofs.sessions_end_clean.session_splits.Goals as goal

pub returns : goal.returns
returns g c = session_splits g.F.Follow.follows
