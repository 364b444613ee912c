use Rattle.std.proofs.Common.{ℕ, List, ◌<◌, get_or}
use Rattle.b2_virtual.specs.Clashes.{Clashes}
use Rattle.b2_virtual.proofs.builder.Builder.first_clash.Given as goal

-- the outputs so far can stand
abbrev pub invariant-loop-place : goal.invariant-loop-place
invariant-loop-place l = (k : ℕ) (d : List ℕ) → k < l.place → Clashes l.self l.step (get_or l.outs k d) → ⊥
