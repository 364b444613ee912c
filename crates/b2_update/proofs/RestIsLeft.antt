-- What runs besides the children that an update which has stopped waits for.
use Rattle.std.proofs.Common.{◌≡◌, ℕ, ◌+◌, inl, inr, length, arith}
use Rattle.b2_runs.specs.Moments.{Moment}
use Rattle.b2_update.specs.Going.{AreToWaitFor}

pub rest_of : (count : ℕ) (entry here : Moment) → AreToWaitFor count entry here → (rest : ℕ) × (length here.host.children.running ≡ count + rest)
rest_of count entry here (inl (same, all)) = (0, omega (arith, all))
rest_of count entry here (inr (failed, once, one)) = (1, one)
