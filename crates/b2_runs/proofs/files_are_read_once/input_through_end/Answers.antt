use Rattle.b2_runs.proofs.ReadsOnce.{input_through_end}
use Rattle.b2_runs.proofs.files_are_read_once.input_through_end.Goals as goal

pub returns : goal.returns
returns c = input_through_end
