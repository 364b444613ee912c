use Rattle.b2_runs.proofs.StopLeavesNone.{update_leaves_none}
use Rattle.b2_runs.proofs.sessions_end_clean.update_leaves_none.Goals as goal

pub returns : goal.returns
returns c = update_leaves_none
