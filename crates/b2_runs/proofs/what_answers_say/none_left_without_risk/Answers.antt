use Rattle.b2_runs.proofs.AllWentStartsNothing.{none_left_without_risk}
use Rattle.b2_runs.proofs.what_answers_say.none_left_without_risk.Goals as goal

pub returns : goal.returns
returns c = none_left_without_risk
