use Rattle.b2_generate.proofs.RequestHasOnePlan.{steps_stay}
use Rattle.b2_generate.proofs.laws.steps_stay.Goals as goal

pub returns : goal.returns
returns g c = steps_stay
