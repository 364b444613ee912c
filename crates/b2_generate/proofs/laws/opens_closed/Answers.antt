use Rattle.b2_generate.proofs.RequestHasOnePlan.{opens_closed}
use Rattle.b2_generate.proofs.laws.opens_closed.Goals as goal

pub returns : goal.returns
returns g c = opens_closed
