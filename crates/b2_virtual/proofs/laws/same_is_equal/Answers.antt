use Rattle.b2_virtual.proofs.JoinedStepsKeepTheirNumbers.{same_is_equal}
use Rattle.b2_virtual.proofs.laws.same_is_equal.Goals as goal

pub returns : goal.returns
returns c = same_is_equal
