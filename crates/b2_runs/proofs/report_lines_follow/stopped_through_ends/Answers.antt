use Rattle.b2_runs.proofs.LinesFollow.{stopped_through_ends}
use Rattle.b2_runs.proofs.report_lines_follow.stopped_through_ends.Goals as goal

pub returns : goal.returns
returns c = stopped_through_ends
