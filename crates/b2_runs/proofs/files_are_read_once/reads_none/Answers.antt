use Rattle.b2_runs.proofs.ReadsOnce.{reads_none}
use Rattle.b2_runs.proofs.files_are_read_once.reads_none.Goals as goal

pub returns : goal.returns
returns c = reads_none
