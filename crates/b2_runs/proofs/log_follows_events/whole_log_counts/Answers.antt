use Rattle.b2_runs.proofs.CutLogIsTrue.{whole_log_counts}
use Rattle.b2_runs.proofs.log_follows_events.whole_log_counts.Goals as goal

pub returns : goal.returns
returns c = whole_log_counts
