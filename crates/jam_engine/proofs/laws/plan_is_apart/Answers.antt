use Rattle.jam_engine.proofs.PlansAreApart.{plan_is_apart}
use Rattle.jam_engine.proofs.laws.plan_is_apart.Goals as goal

pub returns : goal.returns
returns c = plan_is_apart
