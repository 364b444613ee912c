use Rattle.b2_paths.proofs.PairsAreKeys.{other_pairs_stay}
use Rattle.b2_paths.proofs.laws.other_pairs_stay.Goals as goal

pub returns : goal.returns
returns c = other_pairs_stay
