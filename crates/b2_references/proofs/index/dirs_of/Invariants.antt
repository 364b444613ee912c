use Rattle.std.proofs.Common.{◌≡◌, ℕ, List, position, take}
use Rattle.std.specs.FinMap.{get}
use Rattle.std.specs.Str.{bytes_eq}
use Rattle.b2_references.proofs.index.dirs_of.Given as goal

-- the places of the projects so far
abbrev pub invariant-loop-place : goal.invariant-loop-place
invariant-loop-place l = (dir : List ℕ) → get l.made dir ≡ position (λ p. bytes_eq p.dir dir) (take l.place l.places)
