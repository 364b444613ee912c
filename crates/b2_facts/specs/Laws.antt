-- Laws of facts.
use Rattle.std.specs.Prelude.{◌≡◌, ◌↔◌, ℕ, List, Some}
use Rattle.std.specs.List.{Contains}
use Rattle.b2_host.specs.Disks.{Folder, bytes_at}
use Rattle.b2_plan.specs.declared.step.Step.{Step}
use Rattle.b2_plan.specs.Sources.{Build, IsGiven, Includes}
use Rattle.b2_log.specs.Good.{IsDigest}
use Rattle.b2_facts.specs.declared.file_facts.FileFacts.{FileFacts}
use Rattle.b2_facts.specs.Digests.{digest_of}
use Rattle.b2_facts.specs.Facts.{Knowledge, IsFile, IsBlank, IsAbout, path_at, dirs_at, found_at}
use Rattle.b2_facts.specs.Growth.{Grows}
use Rattle.b2_facts.specs.Truth.{IsBuildOf, KeepsSources, AreTrue}
use Rattle.b2_facts.specs.Asks.{IsGivenBy, IsNotGivenBy}

-- facts that stay have grown
abbrev pub GrowsBySame : Type 0
GrowsBySame = (f : Knowledge) → Grows f f

-- facts that grow, and grow again, have grown
abbrev pub GrowsThen : Type 0
GrowsThen = (f g h : Knowledge) → Grows f g → Grows g h → Grows f h

-- facts stay true where files change of which nothing is known
abbrev pub TrueAsFilesChange : Type 0
TrueAsFilesChange = (steps : List Step) (roots : List (List ℕ)) (b : Build) (before after : Folder) (f : Knowledge)
    → IsAbout steps roots f → AreTrue b before f
    → ((n : ℕ) (path : List ℕ) (file : FileFacts) → IsFile f n path file → (IsBlank file → ⊥) → after path ≡ before path)
    → AreTrue b after f

-- true facts tell whether a file is a source or an output
abbrev pub FactsTellGiven : Type 0
FactsTellGiven = (steps : List Step) (roots : List (List ℕ)) (b : Build) (now : Folder) (f : Knowledge) (n : ℕ) (path : List ℕ) (file : FileFacts)
    → IsBuildOf steps roots b → KeepsSources b now → IsAbout steps roots f → AreTrue b now f → IsFile f n path file
    → (IsGivenBy file → IsGiven b path) × (IsNotGivenBy file → IsGiven b path → ⊥)

-- true facts tell what a file includes that a step reads with the directories of a list
abbrev pub FactsTellIncludes : Type 0
FactsTellIncludes = (b : Build) (now : Folder) (f : Knowledge) (step : Step) (list n : ℕ) (path bytes targets : List ℕ)
    → AreTrue b now f → path_at f n ≡ Some path → dirs_at f list ≡ Some step.dirs → found_at f list n ≡ Some targets → bytes_at now path ≡ Some bytes
    → (found : List ℕ) → Includes b step path bytes found ↔ ((target : ℕ) × Contains targets target × (path_at f target ≡ Some found))

-- a file whose includes were found stands
abbrev pub FoundStands : Type 0
FoundStands = (b : Build) (now : Folder) (f : Knowledge) (list n : ℕ) (path : List ℕ) (dirs : List (List ℕ)) (targets : List ℕ)
    → AreTrue b now f → path_at f n ≡ Some path → dirs_at f list ≡ Some dirs → found_at f list n ≡ Some targets
    → (bytes : List ℕ) × (bytes_at now path ≡ Some bytes)

-- a digest is 64 lower-case hexadecimal digits
abbrev pub DigestsAreGood : Type 0
DigestsAreGood = (bytes : List ℕ) → IsDigest (digest_of bytes)
