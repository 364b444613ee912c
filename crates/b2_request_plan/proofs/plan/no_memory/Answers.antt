use Rattle.std.proofs.Common.{refl}
use Rattle.b2_request_plan.proofs.PlanIsWhatWasGenerated.{out_answered}
use Rattle.b2_request_plan.proofs.plan.no_memory.Goals as goal

pub returns : goal.returns
returns g c = λ d roots request. out_answered _ refl refl refl
