use Rattle.b2_runs.proofs.TooBigIsLarge.{large_is_too_big}
use Rattle.b2_runs.proofs.files_are_read_once.large_is_too_big.Goals as goal

pub returns : goal.returns
returns c = large_is_too_big
