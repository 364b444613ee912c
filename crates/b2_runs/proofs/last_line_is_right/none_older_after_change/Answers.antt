use Rattle.b2_runs.proofs.OutputsAreNewer.{none_older_after_change}
use Rattle.b2_runs.proofs.last_line_is_right.none_older_after_change.Goals as goal

pub returns : goal.returns
returns c = none_older_after_change
