use Rattle.b2_runs.proofs.StuckNeedsStuck.{stuck_by_stuck}
use Rattle.b2_runs.proofs.stuck_is_cycle.stuck_by_stuck.Goals as goal

pub returns : goal.returns
returns c = stuck_by_stuck
