use Rattle.b2_runs.proofs.NotedAfterEachEvent.{noted_beside_change}
use Rattle.b2_runs.proofs.last_line_is_right.noted_beside_change.Goals as goal

pub returns : goal.returns
returns c = noted_beside_change
