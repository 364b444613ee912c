use Rattle.b2_runs.proofs.NeededByNumbers.{closed_by_numbers}
use Rattle.b2_runs.proofs.steps_by_numbers.closed_by_numbers.Goals as goal

pub returns : goal.returns
returns c = closed_by_numbers
