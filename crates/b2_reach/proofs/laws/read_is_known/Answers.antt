use Rattle.b2_reach.proofs.MembersAreKnown.{read_is_known}
use Rattle.b2_reach.proofs.laws.read_is_known.Goals as goal

pub returns : goal.returns
returns c = read_is_known
