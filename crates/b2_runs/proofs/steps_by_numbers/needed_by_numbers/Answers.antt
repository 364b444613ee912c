use Rattle.b2_runs.proofs.NeededByNumbers.{needed_by_numbers}
use Rattle.b2_runs.proofs.steps_by_numbers.needed_by_numbers.Goals as goal

pub returns : goal.returns
returns c = needed_by_numbers
