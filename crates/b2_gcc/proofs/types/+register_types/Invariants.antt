use Rattle.std.proofs.Common.{length}
use Rattle.b2_gcc.proofs.types.+register_types.Given as goal

abbrev pub decreases-register_types : goal.decreases-register_types
decreases-register_types l = length l.rows.now
