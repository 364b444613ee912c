use Rattle.std.proofs.Common.{refl, arith}
use Rattle.b2_log.proofs.OrderedNeighboursAreEnough.{rising_from}
use Rattle.b2_log.proofs.proper.is_rising.Goals as goal

pub returns : goal.returns
returns c = (λ _. rising_from _ (λ k lt. c.loop-place.invariant k (omega arith)), λ _. refl)
