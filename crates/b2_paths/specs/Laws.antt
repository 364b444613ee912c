use Rattle.std.specs.Prelude.{◌≡◌, ◌↔◌, ℕ, List, ◌++◌, Some}
use Rattle.std.specs.List.{Contains}
use Rattle.std.specs.FinMap.{get, insert}
use Rattle.b2_paths.specs.PathTables.{IsPlaceOf}
use Rattle.b2_paths.specs.PairMaps.{Pairs}

-- a place stays that of its path as further paths follow
abbrev pub PlacesStay : Type 0
PlacesStay = (paths more : List (List ℕ)) (path : List ℕ) (place : ℕ) → IsPlaceOf paths path place → IsPlaceOf (paths ++ more) path place

-- a path is among those listed exactly where it has a place
abbrev pub ListedHasPlace : Type 0
ListedHasPlace = (paths : List (List ℕ)) (path : List ℕ) → Contains paths path ↔ ((place : ℕ) × IsPlaceOf paths path place)

-- what a pair was given is found there
abbrev pub PairIsFound : Type 0
PairIsFound = (pairs : Pairs) (pair : ℕ × ℕ) (value : ℕ) → get (insert pairs pair value) pair ≡ Some value

-- and at each other pair what was there
abbrev pub OtherPairsStay : Type 0
OtherPairsStay = (pairs : Pairs) (pair other : ℕ × ℕ) (value : ℕ) → (other ≡ pair → ⊥) → get (insert pairs pair value) other ≡ get pairs other
