use Rattle.std.proofs.Common.{length}
use Rattle.jam_values.proofs.params.+is_nothing_left.Given as goal

abbrev pub decreases-is_nothing_left : goal.decreases-is_nothing_left
decreases-is_nothing_left l = length l.given.now
