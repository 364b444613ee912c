use Rattle.std.proofs.Common.{length}
use Rattle.jam_grammar.proofs.mark.+mark_in.Given as goal

abbrev pub decreases-mark_in : goal.decreases-mark_in
decreases-mark_in l = length l.rows.now
