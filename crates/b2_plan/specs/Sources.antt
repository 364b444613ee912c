use Rattle.std.specs.Prelude.{◌≡◌, ℕ, Bool, List, ◌∷◌, ◌++◌, Option, Some, ◌⊎◌}
use Rattle.std.specs.List.{Contains, AllByRecursion}
use Rattle.b2_base.specs.Normal.{IsUnder}
use Rattle.b2_host.specs.Disks.{File, bytes_at}
use Rattle.b2_plan.specs.declared.step.Step.{Step}
use Rattle.b2_plan.specs.Plans.{Makes}

-- an include of a file: the name that is asked for, and whether it is quoted
abbrev pub Include : Type 0
Include = List ℕ × Bool

-- All that a clean build depends on. No stamp, log, order or earlier run is here.
pub record Build : Type 0 where
  pub steps : List Step
  pub wanted : List (List ℕ)
  pub roots : List (List ℕ)
  -- the files before the build
  pub folder : List ℕ → Option File
  -- the includes of a file, by its path and its bytes: none where it is no file that is scanned
  pub inc : List ℕ → List ℕ → List Include
  -- the places where an include is looked for, in order, by the step's dirs and the path of the including file
  pub looks : List (List ℕ) → List ℕ → Include → List (List ℕ)
  -- what a text makes of named inputs, at an output
  pub made : List ℕ → List (List ℕ × List ℕ) → List ℕ → List ℕ

-- the path lies under an output root
abbrev pub IsInRoots : List (List ℕ) → List ℕ → Type 0
IsInRoots roots path = (root : List ℕ) × Contains roots root × IsUnder path root

-- The path is a source with these bytes: a file that stands outside the output roots.
pub record IsSource (b : Build) (path bytes : List ℕ) : Type 0 where
  pub outside : IsInRoots b.roots path → ⊥
  pub stands : bytes_at b.folder path ≡ Some bytes

-- the path is a source or an output
abbrev pub IsGiven : Build → List ℕ → Type 0
IsGiven b path = ((bytes : List ℕ) × IsSource b path bytes) ⊎ ((i : ℕ) × (step : Step) × Makes b.steps i step path)

-- the path is neither a source nor an output
abbrev pub IsMissing : Build → List ℕ → Type 0
IsMissing b path = IsGiven b path → ⊥

-- the first of the places that is a source or an output
pub record IsFound (b : Build) (places : List (List ℕ)) (found : List ℕ) : Type 0 where
  pub before : List (List ℕ)
  pub after : List (List ℕ)
  pub places_are : places ≡ before ++ found ∷ after
  pub there : IsGiven b found
  pub none_before : AllByRecursion (IsMissing b) before

-- one of the includes of the file at a path with these bytes is found at this path
pub record Includes (b : Build) (step : Step) (path bytes found : List ℕ) : Type 0 where
  pub include : Include
  pub listed : Contains (b.inc path bytes) include
  pub first : IsFound b (b.looks step.dirs path include) found
