-- That what is known of files is true of the files as they stand.
use Rattle.std.specs.Prelude.{◌≡◌, ℕ, List, Option, Some, None, ⊤}
use Rattle.std.specs.List.{Contains}
use Rattle.b2_host.specs.Disks.{Folder, bytes_at}
use Rattle.b2_host.specs.FileCalls.{stamp_at}
use Rattle.b2_plan.specs.declared.step.Step.{Step}
use Rattle.b2_plan.specs.Sources.{Build, Include, IsInRoots, IsFound}
use Rattle.b2_log.specs.declared.line.ScanLine.{ScanLine}
use Rattle.b2_log.specs.declared.line.LogLine.{LogLine}
use Rattle.b2_log.specs.Finding.{find_scan}
use Rattle.jam_scan.specs.Scans.{scan_of}
use Rattle.jam_scan.specs.Places.{places}
use Rattle.b2_facts.specs.declared.file_facts.FileLook.{FileLook}
use Rattle.b2_facts.specs.declared.file_facts.FileLook.TheVariants as seen
use Rattle.b2_facts.specs.declared.file_facts.FileFacts.{FileFacts}
use Rattle.b2_facts.specs.Digests.{digest_of}
use Rattle.b2_facts.specs.Facts.{Knowledge, IsFile, IsAbout, path_at, dirs_at, found_at}

-- The build is that of a plan, in which files are scanned as C and C++ files are.
pub record IsBuildOf (steps : List Step) (roots : List (List ℕ)) (b : Build) : Type 0 where
  pub steps_are : b.steps ≡ steps
  pub roots_are : b.roots ≡ roots
  pub inc : b.inc ≡ scan_of
  pub looks : b.looks ≡ places

-- outside the output roots the files stand as they stood where the build began
abbrev pub KeepsSources : Build → Folder → Type 0
KeepsSources b now = (path : List ℕ) → (IsInRoots b.roots path → ⊥) → now path ≡ b.folder path

-- what was seen of a file is so, by its time stamp now
abbrev pub IsSeen : FileLook → Option ℕ → Type 0
IsSeen seen.Unasked stamp = ⊤
IsSeen seen.Gone stamp = stamp ≡ None
IsSeen (seen.Stands known) stamp = stamp ≡ Some known

-- the file stands, and what is known of it is made from its bytes so
abbrev pub IsReadAs : {X : Type 0} → (List ℕ → X) → Option (List ℕ) → Option X → Type 0
IsReadAs of bytes None = ⊤
IsReadAs of bytes (Some known) = (read : List ℕ) × (bytes ≡ Some read) × (known ≡ of read)

-- what is known of the file at a path is true
pub record AreTrueOfFile (b : Build) (now : Folder) (path : List ℕ) (file : FileFacts) : Type 0 where
  pub seen : IsSeen file.seen (stamp_at now path)
  pub includes : IsReadAs (b.inc path) (bytes_at now path) file.includes
  pub digest : IsReadAs digest_of (bytes_at now path) file.digest

-- one of the includes of the file at a path with these bytes is found at this path, in these directories
pub record IncludesFrom (b : Build) (dirs : List (List ℕ)) (path bytes found : List ℕ) : Type 0 where
  pub include : Include
  pub listed : Contains (b.inc path bytes) include
  pub first : IsFound b (b.looks dirs path include) found

-- the file at a path stands, and what it includes is found at the paths with these numbers, and at no others
pub record AreTargets (b : Build) (now : Folder) (f : Knowledge) (dirs : List (List ℕ)) (path : List ℕ) (targets : List ℕ) : Type 0 where
  pub bytes : List ℕ
  pub stands : bytes_at now path ≡ Some bytes
  pub each : (target : ℕ) → Contains targets target
      → (found : List ℕ) × (path_at f target ≡ Some found) × IncludesFrom b dirs path bytes found
  pub whole : (found : List ℕ) → IncludesFrom b dirs path bytes found
      → (target : ℕ) × Contains targets target × (path_at f target ≡ Some found)

-- Each fact is true of the files as they stand.
pub record AreTrue (b : Build) (now : Folder) (f : Knowledge) : Type 0 where
  pub files : (n : ℕ) (path : List ℕ) (file : FileFacts) → IsFile f n path file → AreTrueOfFile b now path file
  pub found : (list n : ℕ) (path : List ℕ) (dirs : List (List ℕ)) (targets : List ℕ)
      → path_at f n ≡ Some path → dirs_at f list ≡ Some dirs → found_at f list n ≡ Some targets → AreTargets b now f dirs path targets

-- true facts about a build stay true as they grow
abbrev pub StaysTrueOf : List Step → List (List ℕ) → Folder → Knowledge → Knowledge → Build → Type 0
StaysTrueOf steps roots now f g b = IsBuildOf steps roots b → KeepsSources b now → IsAbout steps roots f → AreTrue b now f → AreTrue b now g

-- true facts about each build of a plan stay true as they grow
abbrev pub StaysTrue : List Step → List (List ℕ) → Folder → Knowledge → Knowledge → Type 0
StaysTrue steps roots now f g = (b : Build) → StaysTrueOf steps roots now f g b

-- each scan line that a log has for the present stamp of a file tells what the file includes
abbrev pub ScansTell : Build → Folder → List LogLine → Type 0
ScansTell b now lines = (path : List ℕ) (stamp : ℕ) (line : ScanLine) (bytes : List ℕ)
    → find_scan path stamp lines ≡ Some line → stamp_at now path ≡ Some stamp → bytes_at now path ≡ Some bytes
    → line.includes ≡ b.inc path bytes
