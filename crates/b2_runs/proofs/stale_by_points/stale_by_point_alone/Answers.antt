use Rattle.b2_runs.proofs.StaleByPoint.{stale_by_point_alone}
use Rattle.b2_runs.proofs.stale_by_points.stale_by_point_alone.Goals as goal

pub returns : goal.returns
returns c = stale_by_point_alone
