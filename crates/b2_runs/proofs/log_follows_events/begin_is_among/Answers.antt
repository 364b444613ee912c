use Rattle.b2_runs.proofs.FirstLinesAreOne.{begin_is_among}
use Rattle.b2_runs.proofs.log_follows_events.begin_is_among.Goals as goal

pub returns : goal.returns
returns c = begin_is_among
