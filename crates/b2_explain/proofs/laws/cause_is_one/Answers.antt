use Rattle.b2_explain.proofs.CauseIsOne.{cause_is_one}
use Rattle.b2_explain.proofs.laws.cause_is_one.Goals as goal

pub returns : goal.returns
returns c = cause_is_one
