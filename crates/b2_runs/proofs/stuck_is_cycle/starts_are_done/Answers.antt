use Rattle.b2_runs.proofs.StartsAreDone.{starts_are_done}
use Rattle.b2_runs.proofs.stuck_is_cycle.starts_are_done.Goals as goal

pub returns : goal.returns
returns c = starts_are_done
