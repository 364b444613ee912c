use Rattle.b2_runs.proofs.NeededByNumbers.{closed_by_settled}
use Rattle.b2_runs.proofs.steps_by_numbers.closed_by_settled.Goals as goal

pub returns : goal.returns
returns c = closed_by_settled
