use Rattle.std.proofs.Common.{◌≡◌, ℕ, List, ◌<◌, get_or}
use Rattle.b2_virtual.proofs.paths.is_root.Given as goal

-- the path is no root so far
abbrev pub invariant-loop-root : goal.invariant-loop-root
invariant-loop-root l = (k : ℕ) (d : List ℕ) → k < l.root-index → l.path ≡ get_or l.roots k d → ⊥
