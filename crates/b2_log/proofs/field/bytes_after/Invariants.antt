use Rattle.std.proofs.Common.{◌++◌, length}
use Rattle.b2_log.proofs.PlainBytesStandAsTheyAre.{IsReadSo}
use Rattle.b2_log.proofs.field.bytes_after.Given as goal

abbrev pub invariant-loop-next : goal.invariant-loop-next
invariant-loop-next l = IsReadSo (l.plain ++ l.fn.rest) l.text.items l.rest

abbrev pub decreases-loop-next : goal.decreases-loop-next
decreases-loop-next l = length l.rest
