use Rattle.b2_reach.proofs.MembersAreKnown.{stays_as_far}
use Rattle.b2_reach.proofs.laws.stays_as_far.Goals as goal

pub returns : goal.returns
returns c = stays_as_far
