use Rattle.jam_patterns.proofs.GroupsMean.{none_means}
use Rattle.jam_patterns.proofs.laws.none_has_no_match.Goals as goal

pub returns : goal.returns
returns c = none_means
