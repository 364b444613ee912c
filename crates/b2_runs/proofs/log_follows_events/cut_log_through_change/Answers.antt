use Rattle.b2_runs.proofs.CutLogIsTrue.{cut_log_through_change}
use Rattle.b2_runs.proofs.log_follows_events.cut_log_through_change.Goals as goal

pub returns : goal.returns
returns c = cut_log_through_change
