use Rattle.b2_runs.proofs.LastLineIsFound.{last_drop}
use Rattle.b2_runs.proofs.log_stays_true.last_drop.Goals as goal

pub returns : goal.returns
returns c = last_drop
