use Rattle.jam_engine.proofs.PlansComeOnce.{one_plan}
use Rattle.jam_engine.proofs.laws.one_plan.Goals as goal

pub returns : goal.returns
returns c = one_plan
