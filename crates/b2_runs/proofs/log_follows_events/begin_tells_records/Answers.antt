use Rattle.b2_runs.proofs.FirstLinesAreOne.{begin_tells_records}
use Rattle.b2_runs.proofs.log_follows_events.begin_tells_records.Goals as goal

pub returns : goal.returns
returns c = begin_tells_records
