use Rattle.b2_source_laws.proofs.NextPlanIsTheSame.{plan_comes_again}
use Rattle.b2_source_laws.proofs.next_plans.plan_comes_again.Goals as goal

pub returns : goal.returns
returns c = plan_comes_again
