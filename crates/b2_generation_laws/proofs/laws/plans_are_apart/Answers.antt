use Rattle.b2_generation_laws.proofs.PlanOutputsAreApart.{plans_are_apart}
use Rattle.b2_generation_laws.proofs.laws.plans_are_apart.Goals as goal

pub returns : goal.returns
returns g c = plans_are_apart
