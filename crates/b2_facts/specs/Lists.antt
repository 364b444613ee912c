-- Numbers for lists of directories.
use Rattle.std.specs.Prelude.{◌≡◌, ◌⊎◌, ◌↔◌, ℕ, List, [], ◌∷◌, ◌++◌, Some, slice_get}
use Rattle.std.specs.Global.{Vec}
use Rattle.std.specs.Ordering.{nat_cmp}
use Rattle.std.specs.Cmp.Lexicographic.{slice_cmp}
use Rattle.std.specs.BTreeMap.{BTreeMap, get_by}

-- the map has the number of each list, and no other number
abbrev pub AreNumbered : List (List (List ℕ)) → BTreeMap (Vec (List ℕ)) ℕ → Type 0
AreNumbered lists numbers = (dirs : List (List ℕ)) (number : ℕ)
    → get_by (λ key. slice_cmp (slice_cmp nat_cmp) dirs key.items) numbers ≡ Some number ↔ slice_get lists number ≡ Some dirs

-- no list is this one
abbrev pub HasNoNumber : List (List (List ℕ)) → List (List ℕ) → Type 0
HasNoNumber lists dirs = (number : ℕ) → slice_get lists number ≡ Some dirs → ⊥

-- the number of a list, which has no other
pub record IsNumberOf (lists : List (List (List ℕ))) (dirs : List (List ℕ)) (number : ℕ) : Type 0 where
  pub there : slice_get lists number ≡ Some dirs
  pub only : (other : ℕ) → slice_get lists other ≡ Some dirs → other ≡ number

-- the lists are the same, or one was put at the end
abbrev pub IsSameOrAdded : List (List (List ℕ)) → List (List ℕ) → List (List (List ℕ)) → Type 0
IsSameOrAdded before dirs after = (after ≡ before) ⊎ (after ≡ before ++ dirs ∷ [])
