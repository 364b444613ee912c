use Rattle.std.proofs.Common.{length}
use Rattle.b2_gcc.proofs.types.+register_generators.Given as goal

abbrev pub decreases-register_generators : goal.decreases-register_generators
decreases-register_generators l = length l.rows.now
