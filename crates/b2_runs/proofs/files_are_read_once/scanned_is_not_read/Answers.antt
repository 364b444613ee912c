use Rattle.b2_runs.proofs.ReadsOnce.{scanned_is_not_read}
use Rattle.b2_runs.proofs.files_are_read_once.scanned_is_not_read.Goals as goal

pub returns : goal.returns
returns c = scanned_is_not_read
