use Rattle.std.specs.Prelude.{◌≡◌, ℕ, ◌<◌, ◌≤◌, Bool, true, false, List, slice_index_or, map, nat_eq}

-- the number is marked
abbrev pub IsMarked : List Bool → ℕ → Type 0
IsMarked flags number = slice_index_or flags number false ≡ true

-- no number is marked
abbrev pub NoneMarked : List Bool → Type 0
NoneMarked flags = (number : ℕ) → IsMarked flags number → ⊥

-- a number is marked where it has the present stamp
abbrev pub marked_by : List ℕ → ℕ → List Bool
marked_by stamps stamp = map (λ s. nat_eq s stamp) stamps

-- The present stamp is the highest, and is not 0, the stamp of a number that was never marked.
pub record IsStamped (stamps : List ℕ) (stamp : ℕ) : Type 0 where
  pub some : 0 < stamp
  pub highest : (number : ℕ) → slice_index_or stamps number 0 ≤ stamp
