use Rattle.b2_runs.proofs.ReadsLeaveLines.{lines_as_past_grows}
use Rattle.b2_runs.proofs.files_are_read_once.lines_as_past_grows.Goals as goal

pub returns : goal.returns
returns c = lines_as_past_grows
