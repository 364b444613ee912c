use Rattle.std.proofs.Common.{ℕ, take}
use Rattle.std.specs.List.{Contains}
use Rattle.b2_looks.specs.Numbers.{IsOfDone}
use Rattle.b2_looks.proofs.step_files.first_done.Given as goal

-- no step is done that makes one of those so far
abbrev pub invariant-loop-number : goal.invariant-loop-number
invariant-loop-number l = (m : ℕ) → Contains (take l.number-index l.members) m → IsOfDone l.facts l.ran m → ⊥
