use Rattle.std.proofs.Common.{◌≡◌, ℕ, ◌<◌, false}
use Rattle.b2_refine.specs.Choosing.{is_rival}
use Rattle.b2_refine.proofs.choice.rival.Given as goal

abbrev pub invariant-loop-other : goal.invariant-loop-other
invariant-loop-other l = (k : ℕ) → k < l.other → is_rival l.full l.conditions l.place k ≡ false
