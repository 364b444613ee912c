use Rattle.b2_runs.proofs.LastLineIsFound.{last_record}
use Rattle.b2_runs.proofs.log_stays_true.last_record.Goals as goal

pub returns : goal.returns
returns c = last_record
