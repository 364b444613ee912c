use Rattle.std.proofs.Common.{length}
use Rattle.jam_values.proofs.params.+take_list.Given as goal

abbrev pub decreases-take_list : goal.decreases-take_list
decreases-take_list l = length l.params.now
