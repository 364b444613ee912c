use Rattle.b2_runs.proofs.ClosureStays.{closure_is_local}
use Rattle.b2_runs.proofs.clean_build_is_one.closure_is_local.Goals as goal

pub returns : goal.returns
returns g c = closure_is_local g.V.Worth.worth g.W.Worth.worth
