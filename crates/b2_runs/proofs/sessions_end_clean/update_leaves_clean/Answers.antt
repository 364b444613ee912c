use Rattle.b2_runs.proofs.SessionEndsClean.{update_leaves_clean}
use Rattle.b2_runs.proofs.sessions_end_clean.update_leaves_clean.Goals as goal

pub returns : goal.returns
returns c = update_leaves_clean
