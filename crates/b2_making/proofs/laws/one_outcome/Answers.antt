use Rattle.b2_making.proofs.ActsHaveOneOutcome.{one_kind}
use Rattle.b2_making.proofs.laws.one_outcome.Goals as goal

pub returns : goal.returns
returns g c = λ ctx s. one_kind ctx s s.kind
