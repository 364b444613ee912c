use Rattle.b2_runs.proofs.StaleStepStays.{stale_step_stays}
use Rattle.b2_runs.proofs.steps_by_numbers.stale_step_stays.Goals as goal

pub returns : goal.returns
returns c = stale_step_stays
