use Rattle.b2_log.specs.Lines.{stamped}
use Rattle.b2_log.specs.Good.{IsStamped}
use Rattle.b2_log.proofs.ElementsFollowTheirCount.{WrittenSo}
use Rattle.b2_log.proofs.write.push_stamped.Given as goal

abbrev pub invariant-loop-file : goal.invariant-loop-file
invariant-loop-file l = WrittenSo stamped IsStamped l.files l.fn.line.items l.line.items l.file-index
