use Rattle.b2_runs.proofs.StaleStepStays.{needs_grow}
use Rattle.b2_runs.proofs.steps_by_numbers.needs_grow.Goals as goal

pub returns : goal.returns
returns c = needs_grow
