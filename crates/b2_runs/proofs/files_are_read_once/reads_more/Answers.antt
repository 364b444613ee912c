use Rattle.b2_runs.proofs.ReadsOnce.{reads_more}
use Rattle.b2_runs.proofs.files_are_read_once.reads_more.Goals as goal

pub returns : goal.returns
returns c = reads_more
