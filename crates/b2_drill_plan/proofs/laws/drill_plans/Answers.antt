use Rattle.b2_drill_plan.proofs.RequestIsPlanned.{drill_plans}
use Rattle.b2_drill_plan.proofs.laws.drill_plans.Goals as goal

pub returns : goal.returns
returns g c = drill_plans
