use Rattle.b2_runs.proofs.ClosureStays.{missing_is_input}
use Rattle.b2_runs.proofs.clean_build_is_one.missing_is_input.Goals as goal

pub returns : goal.returns
returns g c = missing_is_input g.V.Worth.worth
