use Rattle.b2_runs.proofs.LinesFollow.{lines_follow}
use Rattle.b2_runs.proofs.report_lines_follow.lines_follow.Goals as goal

pub returns : goal.returns
returns c = lines_follow
