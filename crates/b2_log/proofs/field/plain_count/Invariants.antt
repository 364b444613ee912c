use Rattle.std.proofs.Common.{take}
use Rattle.std.specs.List.{All}
use Rattle.b2_log.specs.Readings.{IsPlain}
use Rattle.b2_log.proofs.field.plain_count.Given as goal

abbrev pub invariant-loop-count : goal.invariant-loop-count
invariant-loop-count l = All IsPlain (take l.count l.bytes)
