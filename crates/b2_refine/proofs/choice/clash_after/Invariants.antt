use Rattle.std.proofs.Common.{◌≡◌, ℕ, ◌<◌, false}
use Rattle.b2_refine.specs.Choices.{clashes}
use Rattle.b2_refine.proofs.choice.clash_after.Given as goal

abbrev pub invariant-loop-other : goal.invariant-loop-other
invariant-loop-other l = (k : ℕ) → l.place < k → k < l.other → clashes l.full l.conditions l.place k ≡ false
