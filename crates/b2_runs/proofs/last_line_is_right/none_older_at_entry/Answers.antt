use Rattle.b2_runs.proofs.OutputsAreNewer.{none_older_at_entry}
use Rattle.b2_runs.proofs.last_line_is_right.none_older_at_entry.Goals as goal

pub returns : goal.returns
returns c = none_older_at_entry
