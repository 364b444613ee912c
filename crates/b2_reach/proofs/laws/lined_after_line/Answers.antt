use Rattle.b2_reach.proofs.LinesAreThere.{lined_after_line}
use Rattle.b2_reach.proofs.laws.lined_after_line.Goals as goal

pub returns : goal.returns
returns c = lined_after_line
