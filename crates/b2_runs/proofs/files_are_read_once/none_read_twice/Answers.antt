use Rattle.b2_runs.proofs.ReadsLeaveLines.{none_read_twice}
use Rattle.b2_runs.proofs.files_are_read_once.none_read_twice.Goals as goal

pub returns : goal.returns
returns c = none_read_twice
