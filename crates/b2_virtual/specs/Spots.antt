-- Where a path stands among paths in order of their bytes, so that what lies in a folder comes directly after it.
use Rattle.std.specs.Prelude.{◌≡◌, ◌≢◌, ℕ, Bool, true, false, List, [], ◌∷◌, ◌++◌, ◌⊎◌, None, Some, codes, if◌then◌else◌}
use Rattle.std.specs.List.{list_any}
use Rattle.std.specs.Str.{bytes_eq}
use Rattle.std.specs.Ordering.{nat_cmp}
use Rattle.std.specs.Cmp.Lexicographic.{slice_cmp}
use Rattle.std.specs.FinMap as map
use Rattle.b2_base.specs.Segments.{is_rooted, is_up}
use Rattle.b2_base.specs.Normal.{parts, first_part}
use Rattle.b2_base.specs.Bytes.{IsFrontOf}

-- what a path is taken from: an empty segment for the root, a `.` for the folder, and nothing for what begins with `..`
abbrev pub lead_of : Bool → Bool → List (List ℕ)
lead_of true up = [] ∷ []
lead_of false true = []
lead_of false false = codes "." ∷ []

-- the segments from there to the path
abbrev pub way : List ℕ → List (List ℕ)
way path = lead_of (is_rooted path) (is_up (first_part path)) ++ parts path

-- segments as one text, with a slash (47) after each
abbrev pub ended : List (List ℕ) → List ℕ
ended [] = []
ended (segment ∷ more) = segment ++ 47 ∷ ended more

-- The spot of a path. The spot of a folder begins the spots of all that lies in it, and no other ones.
unfoldable pub spot : List ℕ → List ℕ
spot path = ended (way path)

-- a number for each of some spots
abbrev pub Numbers : Type 0
Numbers = map.FinMap (slice_cmp nat_cmp) ℕ

-- some spot goes on from this one, or is it
abbrev pub GoesOn : Numbers → List ℕ → Type 0
GoesOn numbers text = (key : List ℕ) × (number : ℕ) × (map.get numbers key ≡ Some number) × IsFrontOf text key

-- some spot begins this one, or is it
abbrev pub ComesBefore : Numbers → List ℕ → Type 0
ComesBefore numbers text = (key : List ℕ) × (number : ℕ) × (map.get numbers key ≡ Some number) × IsFrontOf key text

-- no spot begins another one
abbrev pub IsFlat : Numbers → Type 0
IsFlat numbers = (a b : List ℕ) (i k : ℕ) → map.get numbers a ≡ Some i → map.get numbers b ≡ Some k → IsFrontOf a b → a ≡ b

-- some other spot goes on from this one
abbrev pub GoesFurther : Numbers → List ℕ → Type 0
GoesFurther numbers text = (key : List ℕ) × (number : ℕ) × (map.get numbers key ≡ Some number) × IsFrontOf text key × (text ≢ key)

-- a further spot joins others, unless one of them begins it
abbrev pub IsSifted : Numbers → List ℕ → ℕ → Numbers → Type 0
IsSifted before text number after =
    (ComesBefore before text × (after ≡ before)) ⊎ (¬ ComesBefore before text × ((q : List ℕ) → map.get after q ≡ (if bytes_eq q text then Some number else map.get before q)))

-- Those of some spots that no other one begins. One of them begins each spot.
pub record AreOutermost (every outermost : Numbers) : Type 0 where
  pub flat : IsFlat outermost
  pub among : (key : List ℕ) (number : ℕ) → map.get outermost key ≡ Some number → map.get every key ≡ Some number
  pub covers : (key : List ℕ) (number : ℕ) → map.get every key ≡ Some number → ComesBefore outermost key

-- some spots as a map, and those that no other one begins
pub record AreOwnSpots (spots : List (List ℕ)) (every outermost : Numbers) : Type 0 where
  pub every_is : (q : List ℕ) → map.get every q ≡ (if list_any (bytes_eq q) spots then Some 1 else None)
  pub outermost_are : AreOutermost every outermost
