use Rattle.b2_runs.proofs.TooBigIsLarge.{nothing_too_big}
use Rattle.b2_runs.proofs.files_are_read_once.nothing_too_big.Goals as goal

pub returns : goal.returns
returns c = nothing_too_big
