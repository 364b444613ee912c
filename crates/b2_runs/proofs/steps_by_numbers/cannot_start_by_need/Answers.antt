use Rattle.b2_runs.proofs.NeededByNumbers.{cannot_start_by_need}
use Rattle.b2_runs.proofs.steps_by_numbers.cannot_start_by_need.Goals as goal

pub returns : goal.returns
returns c = cannot_start_by_need
