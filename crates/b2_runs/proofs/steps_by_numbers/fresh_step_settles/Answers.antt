use Rattle.b2_runs.proofs.StaleStepStays.{fresh_step_settles}
use Rattle.b2_runs.proofs.steps_by_numbers.fresh_step_settles.Goals as goal

pub returns : goal.returns
returns c = fresh_step_settles
