use Rattle.b2_runs.proofs.StopLeavesNone.{stop_leaves_none}
use Rattle.b2_runs.proofs.sessions_end_clean.stop_leaves_none.Goals as goal

pub returns : goal.returns
returns c = stop_leaves_none
