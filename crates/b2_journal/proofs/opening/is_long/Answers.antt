use Rattle.std.proofs.Common.{arith}
use Rattle.b2_journal.proofs.FirstLinesAreChosen.{kept_fewer}
use Rattle.b2_journal.proofs.opening.is_long.Goals as goal

pub overflow_sub-result : goal.overflow_sub-result
overflow_sub-result c = omega (arith, kept_fewer c.args.log.now.lines)
