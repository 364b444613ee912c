use Rattle.b2_reach.proofs.LinesAreThere.{lined_as_one_grows}
use Rattle.b2_reach.proofs.laws.lined_as_one_grows.Goals as goal

pub returns : goal.returns
returns c = lined_as_one_grows
