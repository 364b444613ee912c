use Rattle.b2_runs.proofs.TooBigIsLarge.{too_big_through_end}
use Rattle.b2_runs.proofs.files_are_read_once.too_big_through_end.Goals as goal

pub returns : goal.returns
returns c = too_big_through_end
