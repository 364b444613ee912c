use Rattle.b2_runs.proofs.LinesFollow.{told_through_ends}
use Rattle.b2_runs.proofs.report_lines_follow.told_through_ends.Goals as goal

pub returns : goal.returns
returns c = told_through_ends
