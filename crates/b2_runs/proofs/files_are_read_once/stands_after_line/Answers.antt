use Rattle.b2_runs.proofs.ReadsLeaveLines.{stands_after_line}
use Rattle.b2_runs.proofs.files_are_read_once.stands_after_line.Goals as goal

pub returns : goal.returns
returns c = stands_after_line
