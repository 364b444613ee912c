use Rattle.b2_runs.proofs.FirstLinesAreOne.{begins_with_one}
use Rattle.b2_runs.proofs.log_follows_events.begins_with_one.Goals as goal

pub returns : goal.returns
returns c = begins_with_one
