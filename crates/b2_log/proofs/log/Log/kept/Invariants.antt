use Rattle.b2_log.proofs.KeptLinesTellTheSame.{KeptSo}
use Rattle.b2_log.proofs.log.Log.kept.Given as goal

abbrev pub invariant-loop-place : goal.invariant-loop-place
invariant-loop-place l = KeptSo l.line-items l.bytes.items l.place
