use Rattle.b2_runs.proofs.FirstLinesAreOne.{lines_are_read}
use Rattle.b2_runs.proofs.log_follows_events.lines_are_read.Goals as goal

pub returns : goal.returns
returns c = lines_are_read
