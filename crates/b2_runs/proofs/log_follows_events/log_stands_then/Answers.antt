use Rattle.b2_runs.proofs.CutLogIsTrue.{log_stands_then}
use Rattle.b2_runs.proofs.log_follows_events.log_stands_then.Goals as goal

pub returns : goal.returns
returns c = log_stands_then
