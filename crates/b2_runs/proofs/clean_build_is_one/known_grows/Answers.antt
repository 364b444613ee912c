use Rattle.b2_runs.proofs.ClosureStays.{known_grows}
use Rattle.b2_runs.proofs.clean_build_is_one.known_grows.Goals as goal

pub returns : goal.returns
returns g c = known_grows g.V.Worth.worth g.W.Worth.worth
