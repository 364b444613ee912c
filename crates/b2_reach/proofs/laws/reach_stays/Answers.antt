use Rattle.b2_reach.proofs.ReachGrows.{reach_stays}
use Rattle.b2_reach.proofs.laws.reach_stays.Goals as goal

pub returns : goal.returns
returns c = reach_stays
