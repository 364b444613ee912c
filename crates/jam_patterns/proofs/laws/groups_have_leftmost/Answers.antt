use Rattle.jam_patterns.proofs.GroupsMean.{groups_mean}
use Rattle.jam_patterns.proofs.laws.groups_have_leftmost.Goals as goal

pub returns : goal.returns
returns c = groups_mean
