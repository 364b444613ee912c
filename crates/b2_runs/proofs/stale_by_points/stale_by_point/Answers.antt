use Rattle.b2_runs.proofs.StaleByPoint.{stale_by_point}
use Rattle.b2_runs.proofs.stale_by_points.stale_by_point.Goals as goal

pub returns : goal.returns
returns c = stale_by_point
