use Rattle.b2_reach.proofs.ForgettingKeepsReach.{reach_stays_as_forgotten}
use Rattle.b2_reach.proofs.laws.reach_stays_as_forgotten.Goals as goal

pub returns : goal.returns
returns c = reach_stays_as_forgotten
