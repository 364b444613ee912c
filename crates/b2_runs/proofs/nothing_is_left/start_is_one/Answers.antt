use Rattle.b2_runs.proofs.StartIsOne.{start_is_one}
use Rattle.b2_runs.proofs.nothing_is_left.start_is_one.Goals as goal

pub returns : goal.returns
returns c = start_is_one
