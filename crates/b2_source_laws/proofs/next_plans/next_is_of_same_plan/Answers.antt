use Rattle.b2_source_laws.proofs.NextPlanIsTheSame.{next_is_of_same_plan}
use Rattle.b2_source_laws.proofs.next_plans.next_is_of_same_plan.Goals as goal

pub returns : goal.returns
returns c = λ made words again disk later plan next first log consistent also stay asks.
    next_is_of_same_plan c.one_meaning.ensures words again disk later plan next consistent also stay asks made first log
