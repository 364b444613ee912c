use Rattle.b2_reach.proofs.ReachGrows.{opened_stays}
use Rattle.b2_reach.proofs.laws.opened_stays.Goals as goal

pub returns : goal.returns
returns c = opened_stays
