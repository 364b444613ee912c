use Rattle.b2_runs.proofs.StepCycleIsThere.{step_cycle_is_there}
use Rattle.b2_runs.proofs.stuck_is_cycle.step_cycle_is_there.Goals as goal

pub returns : goal.returns
returns c = step_cycle_is_there
