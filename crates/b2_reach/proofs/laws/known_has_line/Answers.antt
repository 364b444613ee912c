use Rattle.b2_reach.proofs.MembersAreKnown.{known_has_line}
use Rattle.b2_reach.proofs.laws.known_has_line.Goals as goal

pub returns : goal.returns
returns c = known_has_line
