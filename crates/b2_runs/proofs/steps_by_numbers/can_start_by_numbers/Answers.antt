use Rattle.b2_runs.proofs.NeededByNumbers.{can_start_by_numbers}
use Rattle.b2_runs.proofs.steps_by_numbers.can_start_by_numbers.Goals as goal

pub returns : goal.returns
returns c = can_start_by_numbers
