use Rattle.std.proofs.Common.{length}
use Rattle.b2_gcc.proofs.features.+compose_rows.Given as goal

abbrev pub decreases-compose_rows : goal.decreases-compose_rows
decreases-compose_rows l = length l.rows.now
