use Rattle.std.proofs.Common.{ℕ, List, ◌<◌, get_or}
use Rattle.b2_virtual.specs.Clashes.{AreNested}
use Rattle.b2_virtual.proofs.builder.is_nested.Given as goal

-- no other path so far is nested with it
abbrev pub invariant-loop-other : goal.invariant-loop-other
invariant-loop-other l = (k : ℕ) (d : List ℕ) → k < l.other-index → AreNested l.path (get_or l.others k d) → ⊥
