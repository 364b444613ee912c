-- What a step is known to read, as it is gathered file by file.
use Rattle.std.specs.Prelude.{◌≡◌, ◌≢◌, ◌↔◌, ℕ, ◌<◌, ◌≤◌, Bool, true, false, List, [], ◌∷◌, ◌++◌, fold, length, Some, slice_get, if◌then◌else◌}
use Rattle.std.specs.List.{AllPairs, Contains, list_any, slice_set}
use Rattle.std.specs.Str.{bytes_eq}
use Rattle.b2_plan.specs.declared.step.Step.{Step}
use Rattle.b2_plan.specs.Sources.{Build, Includes}
use Rattle.b2_plan.specs.Closures.{Value, Values}

-- The paths in the order in which they were found, each once, and of each whether it was scanned.
pub record Gathering : Type 0 where
  pub members : List (List ℕ)
  pub scanned : List Bool

-- a gathering by its parts
abbrev pub gathering : List (List ℕ) → List Bool → Gathering
gathering members scanned = record { members = members; scanned = scanned }

-- no member is there twice, and of each it is told whether it was scanned
pub record IsInOrder (g : Gathering) : Type 0 where
  pub distinct : AllPairs (λ p q. p ≢ q) g.members
  pub as_many : length g.scanned ≡ length g.members

-- before anything is found
abbrev pub nothing : Gathering
nothing = record { members = []; scanned = [] }

-- whether a path is among some
abbrev pub is_among : List (List ℕ) → List ℕ → Bool
is_among paths path = list_any (bytes_eq path) paths

-- one more path, which comes at the end, unless it is a member
unfoldable pub with_path : Gathering → List ℕ → Gathering
with_path g path = if is_among g.members path then g else record { members = g.members ++ path ∷ []; scanned = g.scanned ++ false ∷ [] }

-- some more paths, one after the other
abbrev pub with_paths : Gathering → List (List ℕ) → Gathering
with_paths g paths = fold with_path g paths

-- some paths from the front of the list came in, and no more
pub record HasSomeOf (before : Gathering) (paths : List (List ℕ)) (after : Gathering) : Type 0 where
  pub came : List (List ℕ)
  pub left : List (List ℕ)
  pub paths_are : paths ≡ came ++ left
  pub after_is : after ≡ with_paths before came

-- the member at a place counts as scanned
abbrev pub with_mark : Gathering → ℕ → Gathering
with_mark g at = record { members = g.members; scanned = slice_set g.scanned at true }

-- the member at a place was scanned, and these paths were found in it
abbrev pub with_scan : Gathering → ℕ → List (List ℕ) → Gathering
with_scan g at found = with_mark (with_paths g found) at

-- a member stands at the place, and was not scanned
abbrev pub IsOpen : Gathering → ℕ → Type 0
IsOpen g at = slice_get g.scanned at ≡ Some false

-- no place from this one on is open
abbrev pub NoneOpen : Gathering → ℕ → Type 0
NoneOpen g from = (at : ℕ) → from ≤ at → IsOpen g at → ⊥

-- the first open place from this one on
pub record IsFirstOpen (g : Gathering) (from at : ℕ) : Type 0 where
  pub low : from ≤ at
  pub is_open : IsOpen g at
  pub none_before : (k : ℕ) → from ≤ k → k < at → IsOpen g k → ⊥

-- ---- what is gathered

-- these paths are found in the file at a path, by its value: none where it has no bytes
abbrev pub AreFoundIn : Build → Step → List ℕ → Value → List (List ℕ) → Type 0
AreFoundIn b step path value found = (other : List ℕ) → Contains found other ↔ ((bytes : List ℕ) × (value ≡ Some bytes) × Includes b step path bytes other)

-- The gathering of a step, by the values of the members that were scanned so far, in order.
pub data IsGathered (b : Build) (step : Step) : List (List ℕ × Value) → Gathering → Type 0 where
  begun : IsGathered b step [] (with_paths nothing step.ins)
  scanned : (told : List (List ℕ × Value)) (g : Gathering) (at : ℕ) (path : List ℕ) (value : Value) (found : List (List ℕ)) → IsGathered b step told g
      → slice_get g.members at ≡ Some path → IsOpen g at → AreFoundIn b step path value found → IsGathered b step (told ++ (path, value) ∷ []) (with_scan g at found)

-- the values that were told
abbrev pub told_values : List (List ℕ × Value) → Values
told_values told path value = Contains told (path, value)
