use Rattle.b2_reach.proofs.LinesStay.{lines_stay}
use Rattle.b2_reach.proofs.laws.lines_stay.Goals as goal

pub returns : goal.returns
returns c = lines_stay
