use Rattle.std.proofs.Common.{length}
use Rattle.b2_log.specs.Lines.{spelling}
use Rattle.b2_log.specs.Good.{IsGood}
use Rattle.b2_log.proofs.JoinedPartsHaveOneReading.{ReadSo}
use Rattle.b2_log.proofs.log.read_log.Given as goal

abbrev pub invariant-loop-log : goal.invariant-loop-log
invariant-loop-log l = ReadSo spelling IsGood l.bytes l.log.lines l.rest (length l.log.lines)

abbrev pub decreases-loop-log : goal.decreases-loop-log
decreases-loop-log l = length l.rest
