use Rattle.b2_runs.proofs.SessionEndsClean.{session_ends_clean}
use Rattle.b2_runs.proofs.sessions_end_clean.session_ends_clean.Goals as goal

pub returns : goal.returns
returns c = session_ends_clean
