use Rattle.b2_runs.proofs.ClosureIsOne.{closure_is_one}
use Rattle.b2_runs.proofs.clean_build_is_one.closure_is_one.Goals as goal

pub returns : goal.returns
returns g c = closure_is_one g.V.Worth.worth
