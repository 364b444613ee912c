use Rattle.b2_log.specs.Lines.{field}
use Rattle.b2_log.specs.Good.{IsPath}
use Rattle.b2_log.proofs.ElementsFollowTheirCount.{WrittenSo}
use Rattle.b2_log.proofs.write.push_paths.Given as goal

abbrev pub invariant-loop-path : goal.invariant-loop-path
invariant-loop-path l = WrittenSo field IsPath l.paths l.fn.line.items l.line.items l.path-index
