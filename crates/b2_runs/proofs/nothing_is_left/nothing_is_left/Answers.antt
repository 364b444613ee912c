use Rattle.b2_runs.proofs.NothingIsLeft.{nothing_is_left}
use Rattle.b2_runs.proofs.nothing_is_left.nothing_is_left.Goals as goal

pub returns : goal.returns
returns c = nothing_is_left
