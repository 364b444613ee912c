use Rattle.std.proofs.Common.{ℕ, ◌+◌, ◌<◌}
use Rattle.b2_log.specs.Good.{RisesAt}
use Rattle.b2_log.proofs.proper.is_rising.Given as goal

abbrev pub invariant-loop-place : goal.invariant-loop-place
invariant-loop-place l = (k : ℕ) → k + 1 < l.place → RisesAt l.files k
