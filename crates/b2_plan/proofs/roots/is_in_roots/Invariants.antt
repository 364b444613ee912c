use Rattle.std.proofs.Common.{ℕ, List, ◌<◌, get_or}
use Rattle.b2_base.specs.Normal.{IsUnder}
use Rattle.b2_plan.proofs.roots.is_in_roots.Given as goal

-- the path lies under no root so far
abbrev pub invariant-loop-root : goal.invariant-loop-root
invariant-loop-root l = (k : ℕ) (d : List ℕ) → k < l.root-index → IsUnder l.path (get_or l.roots k d) → ⊥
