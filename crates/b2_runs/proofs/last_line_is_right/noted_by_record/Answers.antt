use Rattle.b2_runs.proofs.NotedAfterEachEvent.{step_recorded}
use Rattle.b2_runs.proofs.last_line_is_right.noted_by_record.Goals as goal

pub returns : goal.returns
returns c = step_recorded
