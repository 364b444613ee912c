use Rattle.b2_runs.proofs.ReadsOnce.{unscanned_is_not_read}
use Rattle.b2_runs.proofs.files_are_read_once.unscanned_is_not_read.Goals as goal

pub returns : goal.returns
returns c = unscanned_is_not_read
