use Rattle.b2_runs.proofs.ClosureStays.{closure_stays}
use Rattle.b2_runs.proofs.clean_build_is_one.closure_stays.Goals as goal

pub returns : goal.returns
returns g c = closure_stays g.V.Worth.worth g.W.Worth.worth
