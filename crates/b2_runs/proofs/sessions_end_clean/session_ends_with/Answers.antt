use Rattle.b2_runs.proofs.SessionEndsClean.{session_ends_with}
use Rattle.b2_runs.proofs.sessions_end_clean.session_ends_with.Goals as goal

pub returns : goal.returns
returns g c = session_ends_with g.F.Follow.follows
