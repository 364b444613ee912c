use Rattle.std.proofs.Common.{ℕ, take}
use Rattle.std.specs.List.{Contains}
use Rattle.b2_looks.specs.Numbers.{HasNoBytes}
use Rattle.b2_looks.proofs.step_files.first_without.Given as goal

-- each so far has bytes
abbrev pub invariant-loop-number : goal.invariant-loop-number
invariant-loop-number l = (m : ℕ) → Contains (take l.number-index l.members) m → HasNoBytes l.plan.steps l.facts m → ⊥
