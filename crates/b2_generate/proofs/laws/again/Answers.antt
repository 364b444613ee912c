use Rattle.b2_generate.proofs.RequestHasOnePlan.{again}
use Rattle.b2_generate.proofs.laws.again.Goals as goal

pub returns : goal.returns
returns g c = again
