use Rattle.b2_generate.proofs.RequestHasOnePlan.{one_outcome}
use Rattle.b2_generate.proofs.laws.one_outcome.Goals as goal

pub returns : goal.returns
returns g c = one_outcome
