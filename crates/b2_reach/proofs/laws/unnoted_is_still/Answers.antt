use Rattle.b2_reach.proofs.LinesStay.{unnoted_is_still}
use Rattle.b2_reach.proofs.laws.unnoted_is_still.Goals as goal

pub returns : goal.returns
returns c = unnoted_is_still
