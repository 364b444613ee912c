use Rattle.b2_runs.proofs.CutLogIsTrue.{finished_is_not_started}
use Rattle.b2_runs.proofs.log_follows_events.finished_is_not_started.Goals as goal

pub returns : goal.returns
returns c = finished_is_not_started
