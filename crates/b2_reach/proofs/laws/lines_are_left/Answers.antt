use Rattle.b2_reach.proofs.LinesStay.{lines_are_left}
use Rattle.b2_reach.proofs.laws.lines_are_left.Goals as goal

pub returns : goal.returns
returns c = lines_are_left
