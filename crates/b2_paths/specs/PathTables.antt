use Rattle.std.specs.Prelude.{◌≡◌, ℕ, ◌≤◌, List, length, Some, slice_get}

-- the path stands at this place
abbrev pub IsPlaceOf : List (List ℕ) → List ℕ → ℕ → Type 0
IsPlaceOf paths path place = slice_get paths place ≡ Some path

-- no path stands at two places
abbrev pub AreDistinct : List (List ℕ) → Type 0
AreDistinct paths = (path : List ℕ) (place other : ℕ) → IsPlaceOf paths path place → IsPlaceOf paths path other → place ≡ other

-- there are at most 2 ^ 32 - 1 paths, so that each place, and their count, is a number of 32 bits
abbrev pub AreFew : List (List ℕ) → Type 0
AreFew paths = length paths ≤ 4294967295
