use Rattle.b2_drill_plan.proofs.StepsJoinInTurn.{steps_join}
use Rattle.b2_drill_plan.proofs.laws.steps_join.Goals as goal

pub returns : goal.returns
returns c = steps_join
