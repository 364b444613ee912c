use Rattle.b2_reach.proofs.MembersAreKnown.{lacks_missing}
use Rattle.b2_reach.proofs.laws.lacks_missing.Goals as goal

pub returns : goal.returns
returns c = lacks_missing
