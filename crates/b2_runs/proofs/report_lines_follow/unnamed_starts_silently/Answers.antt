use Rattle.b2_runs.proofs.LinesFollow.{unnamed_starts_silently}
use Rattle.b2_runs.proofs.report_lines_follow.unnamed_starts_silently.Goals as goal

pub returns : goal.returns
returns c = unnamed_starts_silently
