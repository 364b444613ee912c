use Rattle.b2_runs.proofs.ReadsLeaveLines.{lines_of_none}
use Rattle.b2_runs.proofs.files_are_read_once.lines_of_none.Goals as goal

pub returns : goal.returns
returns c = lines_of_none
