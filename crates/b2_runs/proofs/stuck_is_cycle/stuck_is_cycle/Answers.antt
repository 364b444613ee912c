use Rattle.b2_runs.proofs.StepCycleIsThere.{stuck_is_cycle}
use Rattle.b2_runs.proofs.stuck_is_cycle.stuck_is_cycle.Goals as goal

pub returns : goal.returns
returns c = stuck_is_cycle
