use Rattle.b2_log.specs.Lines.{stamped}
use Rattle.b2_log.specs.Good.{IsStamped}
use Rattle.b2_log.proofs.JoinedPartsHaveOneReading.{ReadSo}
use Rattle.b2_log.proofs.list.stamped_at.Given as goal

abbrev pub invariant-loop : goal.invariant-loop
invariant-loop l = ReadSo stamped IsStamped l.initial.rest l.files l.rest l.counter
