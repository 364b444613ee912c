use Rattle.b2_log.specs.Lines.{included}
use Rattle.b2_log.specs.Good.{IsIncluded}
use Rattle.b2_log.proofs.JoinedPartsHaveOneReading.{ReadSo}
use Rattle.b2_log.proofs.list.includes_at.Given as goal

abbrev pub invariant-loop : goal.invariant-loop
invariant-loop l = ReadSo included IsIncluded l.initial.rest l.includes l.rest l.counter
