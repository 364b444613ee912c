use Rattle.b2_reach.proofs.MembersAreKnown.{too_big_is_known}
use Rattle.b2_reach.proofs.laws.too_big_is_known.Goals as goal

pub returns : goal.returns
returns c = too_big_is_known
