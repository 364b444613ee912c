use Rattle.b2_runs.proofs.StaleStepStays.{lacks_grow}
use Rattle.b2_runs.proofs.steps_by_numbers.lacks_grow.Goals as goal

pub returns : goal.returns
returns c = lacks_grow
