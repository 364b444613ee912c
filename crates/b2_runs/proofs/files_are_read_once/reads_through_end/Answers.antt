use Rattle.b2_runs.proofs.ReadsOnce.{reads_through_end}
use Rattle.b2_runs.proofs.files_are_read_once.reads_through_end.Goals as goal

pub returns : goal.returns
returns c = reads_through_end
