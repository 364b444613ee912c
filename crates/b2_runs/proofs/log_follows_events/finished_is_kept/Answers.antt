use Rattle.b2_runs.proofs.CutLogIsTrue.{finished_is_kept}
use Rattle.b2_runs.proofs.log_follows_events.finished_is_kept.Goals as goal

pub returns : goal.returns
returns c = finished_is_kept
