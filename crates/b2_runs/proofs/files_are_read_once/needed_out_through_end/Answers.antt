use Rattle.b2_runs.proofs.ReadsOnce.{needed_out_through_end}
use Rattle.b2_runs.proofs.files_are_read_once.needed_out_through_end.Goals as goal

pub returns : goal.returns
returns c = needed_out_through_end
