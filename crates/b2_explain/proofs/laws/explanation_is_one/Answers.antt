use Rattle.b2_explain.proofs.CauseIsOne.{explanation_is_one}
use Rattle.b2_explain.proofs.laws.explanation_is_one.Goals as goal

pub returns : goal.returns
returns c = explanation_is_one
