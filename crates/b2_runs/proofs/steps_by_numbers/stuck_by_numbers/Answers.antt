use Rattle.b2_runs.proofs.NeededByNumbers.{stuck_by_numbers}
use Rattle.b2_runs.proofs.steps_by_numbers.stuck_by_numbers.Goals as goal

pub returns : goal.returns
returns c = stuck_by_numbers
