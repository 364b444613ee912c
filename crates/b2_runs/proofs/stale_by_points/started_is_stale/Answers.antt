use Rattle.b2_runs.proofs.StartedIsStale.{started_is_stale}
use Rattle.b2_runs.proofs.stale_by_points.started_is_stale.Goals as goal

pub returns : goal.returns
returns c = started_is_stale
