use Rattle.std.proofs.Common.{ap, refl}
use Rattle.b2_log.proofs.BytesHaveOneReading.{reading_ends}
use Rattle.b2_log.proofs.log.read_log.Goals as goal

pub returns : goal.returns
returns c = rw (ap (λ v. v.lines) c.log.view_is) (reading_ends _ _ _ _ _ c.loop-log.invariant (rw c.in_default.is at c.in_ok-line.ensures.exact) refl)
