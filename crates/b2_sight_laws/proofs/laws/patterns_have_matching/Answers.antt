use Rattle.b2_sight_laws.proofs.SightOfDisk.{has_matching}
use Rattle.b2_sight_laws.proofs.laws.patterns_have_matching.Goals as goal

pub returns : goal.returns
returns c = has_matching
