use Rattle.b2_making.proofs.EarlierStepsAreKept.{steady_kind}
use Rattle.b2_making.proofs.laws.again.Goals as goal

pub returns : goal.returns
returns g c = λ ctx s. (steady_kind ctx s s.kind).repeats
