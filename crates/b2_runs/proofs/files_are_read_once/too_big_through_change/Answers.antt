use Rattle.b2_runs.proofs.TooBigIsLarge.{too_big_through_change}
use Rattle.b2_runs.proofs.files_are_read_once.too_big_through_change.Goals as goal

pub returns : goal.returns
returns c = too_big_through_change
