use Rattle.std.proofs.Common.{◌∙◌}
use Rattle.b2_base.proofs.DigitsGrowByOneByte.{digits_more}
use Rattle.b2_base.proofs.hexadecimal.hexadecimal.Goals as goal

pub loop-byte-preserved : goal.loop-byte-preserved
loop-byte-preserved c = digits_more _ _ _ _ _ c.loop-byte-test.true c.loop-byte.invariant (c.as_str.ensures.value ∙ c.in_ok-pair.ensures) c.in_ok-push_str.ensures.bytes
