use Rattle.b2_runs.proofs.NeededByNumbers.{skipped_by_numbers}
use Rattle.b2_runs.proofs.steps_by_numbers.skipped_by_numbers.Goals as goal

pub returns : goal.returns
returns c = skipped_by_numbers
