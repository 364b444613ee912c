use Rattle.b2_runs.proofs.ReadsLeaveLines.{stands_after_change}
use Rattle.b2_runs.proofs.files_are_read_once.stands_after_change.Goals as goal

pub returns : goal.returns
returns c = stands_after_change
