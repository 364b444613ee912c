use Rattle.b2_base.proofs.NormalFormIsOnlyEnd.{normal_is_simplest}
use Rattle.b2_base.proofs.laws.normal_is_simplest.Goals as goal

pub returns : goal.returns
returns c = normal_is_simplest
