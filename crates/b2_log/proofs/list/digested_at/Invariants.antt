use Rattle.b2_log.proofs.FilesAndDigestsPairUp.{ReadBoth}
use Rattle.b2_log.proofs.list.digested_at.Given as goal

abbrev pub invariant-loop : goal.invariant-loop
invariant-loop l = ReadBoth l.initial.rest l.list.files l.list.digests l.rest l.counter
