use Rattle.b2_runs.proofs.LinesFollow.{stopped_at_line}
use Rattle.b2_runs.proofs.report_lines_follow.stopped_at_line.Goals as goal

pub returns : goal.returns
returns c = stopped_at_line
