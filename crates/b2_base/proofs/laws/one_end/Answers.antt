use Rattle.b2_base.proofs.StepsLeadToOneEnd.{step_shortens, one_end}
use Rattle.b2_base.proofs.laws.one_end.Goals as goal

pub returns-clause-ends : goal.returns-clause-ends
returns-clause-ends c = step_shortens

pub returns-clause-one : goal.returns-clause-one
returns-clause-one c = one_end
