use Rattle.b2_runs.proofs.CutLogIsTrue.{held_counts}
use Rattle.b2_runs.proofs.log_follows_events.held_is_counted.Goals as goal

pub returns : goal.returns
returns c = held_counts
