use Rattle.std.proofs.Common.{length}
use Rattle.jam_values.proofs.params.+take_lists.Given as goal

abbrev pub decreases-take_lists : goal.decreases-take_lists
decreases-take_lists l = length l.params.now
