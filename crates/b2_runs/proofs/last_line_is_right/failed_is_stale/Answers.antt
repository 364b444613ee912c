use Rattle.b2_runs.proofs.OutputsAreNewer.{failed_is_stale}
use Rattle.b2_runs.proofs.last_line_is_right.failed_is_stale.Goals as goal

pub returns : goal.returns
returns c = failed_is_stale
