use Rattle.b2_runs.proofs.ClosureStays.{known_is_local}
use Rattle.b2_runs.proofs.clean_build_is_one.known_is_local.Goals as goal

pub returns : goal.returns
returns g c = known_is_local g.V.Worth.worth g.W.Worth.worth
