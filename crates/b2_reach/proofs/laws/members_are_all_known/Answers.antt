use Rattle.b2_reach.proofs.MembersAreKnown.{members_are_all_known}
use Rattle.b2_reach.proofs.laws.members_are_all_known.Goals as goal

pub returns : goal.returns
returns c = members_are_all_known
