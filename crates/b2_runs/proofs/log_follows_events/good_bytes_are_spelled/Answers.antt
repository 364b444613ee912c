use Rattle.b2_runs.proofs.CutLogIsTrue.{whole_bytes}
use Rattle.b2_runs.proofs.log_follows_events.good_bytes_are_spelled.Goals as goal

pub returns : goal.returns
returns c = whole_bytes
