use Rattle.b2_runs.proofs.StepCycleIsOne.{step_cycle_is_one}
use Rattle.b2_runs.proofs.stuck_is_cycle.step_cycle_is_one.Goals as goal

pub returns : goal.returns
returns c = step_cycle_is_one
