use Rattle.b2_runs.proofs.NothingIsLeft.{nothing_is_missed}
use Rattle.b2_runs.proofs.nothing_is_left.nothing_is_missed.Goals as goal

pub returns : goal.returns
returns c = nothing_is_missed
