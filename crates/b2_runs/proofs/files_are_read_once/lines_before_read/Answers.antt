use Rattle.b2_runs.proofs.ReadsLeaveLines.{lines_before_read}
use Rattle.b2_runs.proofs.files_are_read_once.lines_before_read.Goals as goal

pub returns : goal.returns
returns c = lines_before_read
