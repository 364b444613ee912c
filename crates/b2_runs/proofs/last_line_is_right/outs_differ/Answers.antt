use Rattle.b2_runs.proofs.NotedAfterEachEvent.{other_outs}
use Rattle.b2_runs.proofs.last_line_is_right.outs_differ.Goals as goal

pub returns : goal.returns
returns c = other_outs
