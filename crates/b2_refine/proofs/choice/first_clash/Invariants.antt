use Rattle.std.proofs.Common.{◌≡◌, ℕ, ◌<◌, false}
use Rattle.b2_refine.specs.Choices.{clashes}
use Rattle.b2_refine.proofs.choice.first_clash.Given as goal

abbrev pub invariant-loop-place : goal.invariant-loop-place
invariant-loop-place l = (i k : ℕ) → i < l.place → i < k → clashes l.full l.conditions i k ≡ false
