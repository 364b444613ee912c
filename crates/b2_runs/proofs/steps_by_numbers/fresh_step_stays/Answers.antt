use Rattle.b2_runs.proofs.StaleStepStays.{fresh_step_stays}
use Rattle.b2_runs.proofs.steps_by_numbers.fresh_step_stays.Goals as goal

pub returns : goal.returns
returns c = fresh_step_stays
