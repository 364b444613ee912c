use Rattle.b2_generate.proofs.RequestHasOnePlan.{one_plan}
use Rattle.b2_generate.proofs.laws.one_plan.Goals as goal

pub returns : goal.returns
returns g c = one_plan
