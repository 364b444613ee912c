use Rattle.b2_runs.proofs.ReadsLeaveLines.{stands_along}
use Rattle.b2_runs.proofs.files_are_read_once.stands_along.Goals as goal

pub returns : goal.returns
returns c = stands_along
