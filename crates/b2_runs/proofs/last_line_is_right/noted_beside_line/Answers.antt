use Rattle.b2_runs.proofs.NotedAfterEachEvent.{line_for}
use Rattle.b2_runs.proofs.last_line_is_right.noted_beside_line.Goals as goal

pub returns : goal.returns
returns c = line_for
