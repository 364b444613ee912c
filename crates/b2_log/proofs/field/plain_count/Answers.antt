use Rattle.b2_log.proofs.PlainBytesStandAsTheyAre.{plain_more}
use Rattle.b2_log.proofs.field.plain_count.Goals as goal

pub loop-count-preserved : goal.loop-count-preserved
loop-count-preserved c = plain_more _ _ c.loop-count-test.true c.loop-count.invariant (c.is_plain.ensures c.if-not-is_plain.false)
