use Rattle.b2_runs.proofs.ReadsOnce.{reads_along}
use Rattle.b2_runs.proofs.files_are_read_once.reads_along.Goals as goal

pub returns : goal.returns
returns c = reads_along
