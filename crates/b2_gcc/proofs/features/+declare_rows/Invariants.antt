use Rattle.std.proofs.Common.{length}
use Rattle.b2_gcc.proofs.features.+declare_rows.Given as goal

abbrev pub decreases-declare_rows : goal.decreases-declare_rows
decreases-declare_rows l = length l.rows.now
