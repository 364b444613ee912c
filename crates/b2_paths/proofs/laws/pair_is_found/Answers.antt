use Rattle.b2_paths.proofs.PairsAreKeys.{pair_is_found}
use Rattle.b2_paths.proofs.laws.pair_is_found.Goals as goal

pub returns : goal.returns
returns c = pair_is_found
