use Rattle.b2_runs.proofs.LinesFollow.{all_is_told}
use Rattle.b2_runs.proofs.report_lines_follow.all_is_told.Goals as goal

pub returns : goal.returns
returns c = all_is_told
