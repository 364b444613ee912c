use Rattle.b2_runs.proofs.ReadsOnce.{reads_as_past_grows}
use Rattle.b2_runs.proofs.files_are_read_once.reads_as_past_grows.Goals as goal

pub returns : goal.returns
returns c = reads_as_past_grows
