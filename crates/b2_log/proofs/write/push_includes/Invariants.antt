use Rattle.b2_log.specs.Lines.{included}
use Rattle.b2_log.specs.Good.{IsIncluded}
use Rattle.b2_log.proofs.ElementsFollowTheirCount.{WrittenSo}
use Rattle.b2_log.proofs.write.push_includes.Given as goal

abbrev pub invariant-loop-include : goal.invariant-loop-include
invariant-loop-include l = WrittenSo included IsIncluded l.includes l.fn.line.items l.line.items l.include-index
