use Rattle.b2_runs.proofs.LastLineIsFound.{found_is_there}
use Rattle.b2_runs.proofs.log_stays_true.found_is_there.Goals as goal

pub returns : goal.returns
returns c = found_is_there
