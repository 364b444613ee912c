use Rattle.b2_runs.proofs.NeededByNumbers.{cannot_start_fresh}
use Rattle.b2_runs.proofs.steps_by_numbers.cannot_start_fresh.Goals as goal

pub returns : goal.returns
returns c = cannot_start_fresh
