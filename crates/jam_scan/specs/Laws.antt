-- Laws of includes, of where they are looked for, and of what is gathered.
use Rattle.std.specs.Prelude.{◌≡◌, ◌↔◌, ℕ, false, List, [], All, Some}
use Rattle.std.specs.List.{Contains}
use Rattle.b2_base.specs.Normal.{IsNormal}
use Rattle.b2_plan.specs.declared.step.Step.{Step}
use Rattle.b2_plan.specs.Sources.{Build, Include}
use Rattle.b2_plan.specs.Closures.{Value, Known}
use Rattle.jam_scan.specs.IncludeLines.{IsName, IsIncludeLine, include_of, includes_of, lines}
use Rattle.jam_scan.specs.Scans.{is_scanned, scan_of}
use Rattle.jam_scan.specs.Places.{places}
use Rattle.jam_scan.specs.Gatherings.{Gathering, NoneOpen, IsGathered, told_values}

-- a line has an include exactly where it is one
abbrev pub LinesInclude : Type 0
LinesInclude = (line : List ℕ) (include : Include) → (include_of line ≡ Some include) ↔ IsIncludeLine line include

-- the includes of a file are those of its lines
abbrev pub FilesInclude : Type 0
FilesInclude = (bytes : List ℕ) (include : Include) → Contains (includes_of bytes) include ↔ ((line : List ℕ) × Contains (lines bytes) line × IsIncludeLine line include)

-- a file that is not scanned has no includes
abbrev pub UnscannedIncludesNone : Type 0
UnscannedIncludesNone = (path bytes : List ℕ) → is_scanned path ≡ false → scan_of path bytes ≡ []

-- what a file includes has a name
abbrev pub IncludesAreNamed : Type 0
IncludesAreNamed = (path bytes : List ℕ) → All (λ include. IsName include.0) (scan_of path bytes)

-- each place where an include is looked for is a path in normal form
abbrev pub PlacesAreNormal : Type 0
PlacesAreNormal = (dirs : List (List ℕ)) (file : List ℕ) (include : Include) → All IsNormal (places dirs file include)

-- The members are all that the step is known to read, by the values that were told.
abbrev pub GatheredIsKnown : Type 0
GatheredIsKnown = (b : Build) (step : Step) (told : List (List ℕ × Value)) (g : Gathering) → IsGathered b step told g → (path : List ℕ) → Known b (told_values told) step path ↔ Contains g.members path

-- where no member is left to be scanned, each has a value
abbrev pub GatheredHasValues : Type 0
GatheredHasValues = (b : Build) (step : Step) (told : List (List ℕ × Value)) (g : Gathering) → IsGathered b step told g → NoneOpen g 0 → All (λ path. (value : Value) × Contains told (path, value)) g.members

-- no member has two values
abbrev pub ValuesAreOne : Type 0
ValuesAreOne = (b : Build) (step : Step) (told : List (List ℕ × Value)) (g : Gathering) → IsGathered b step told g → (path : List ℕ) (x y : Value) → Contains told (path, x) → Contains told (path, y) → x ≡ y
