use Rattle.b2_log.specs.Lines.{field}
use Rattle.b2_log.specs.Good.{IsPath}
use Rattle.b2_log.proofs.JoinedPartsHaveOneReading.{ReadSo}
use Rattle.b2_log.proofs.list.paths_at.Given as goal

abbrev pub invariant-loop : goal.invariant-loop
invariant-loop l = ReadSo field IsPath l.initial.rest l.paths l.rest l.counter
