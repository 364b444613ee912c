-- What the search for project files says of the outside.
use Rattle.std.specs.Prelude.{◌≡◌, Bool, true, false, Option, Some, None, Result, Ok, Err}
use Rattle.std.specs.Option.{IfSome}
use Rattle.b2_host.specs.declared.fault.IoFault.{IoFault}
use Rattle.b2_host.specs.declared.fault.IoFault.TheVariants as io
use Rattle.b2_host.specs.Disks.{Folder, Disk}
use Rattle.b2_base.specs.Counts.{Rose}
use Rattle.b2_host.specs.Outside.{Outside}
use Rattle.b2_host.specs.OutsideLaws.{Keeps}
use Rattle.jam_journal.specs.Tables.{Text}
use Rattle.jam_scope.specs.Worlds.{World}
use Rattle.jam_meaning.specs.Settings.{Reading, is_missing, IsReading}
use Rattle.jam_values.specs.FileReadings.{reading_of}
use Rattle.b2_project_walk.specs.declared.fault.LoadFault.{LoadFault}
use Rattle.b2_project_walk.specs.declared.fault.LoadFault.TheVariants as faults
use Rattle.b2_project_walk.specs.declared.project_file.ProjectFile.{ProjectFile}
use Rattle.b2_project_walk.specs.Directories.{project_files, seen, first_file}

-- the files of a folder read so
abbrev pub AreReadings : Folder → (Text → Reading) → Type 0
AreReadings folder reading = (path : Text) → IsReading folder path (reading path)

abbrev pub misses : Reading → Bool
misses is_missing = true
misses _ = false

-- how a file reads: it is missing, or it was found
abbrev pub IsRead : Option ProjectFile → Text → Reading → Type 0
IsRead None path reading = misses reading ≡ true
IsRead (Some file) path reading = (file.path ≡ path) × (reading_of file.reading ≡ reading) × (misses reading ≡ false)

-- what was found is this file, or there is none
abbrev pub IsFileFound : Option ProjectFile → Text × Reading → Type 0
IsFileFound None found = found.1 ≡ is_missing
IsFileFound (Some file) found = ◌≡◌ {A = Text × Reading} found (file.path, reading_of file.reading)

-- where the files are visible, something holds of how they read
abbrev pub IfVisible : Option Disk → ((Text → Reading) → Type 0) → Type 0
IfVisible disk P = IfSome disk (λ d. (reading : Text → Reading) → AreReadings d.now reading → P reading)

-- the file at a path reads so in a world; it was found, or is missing; and so is the project file of a directory
abbrev pub IsSeen : Option Disk → World → Text → Reading → Type 0
IsSeen disk w path read = IfVisible disk (λ reading. seen w reading path ≡ read)

abbrev pub IsFileAt : Option Disk → World → Text → Option ProjectFile → Type 0
IsFileAt disk w path found = IfVisible disk (λ reading. IsRead found path (seen w reading path))

abbrev pub IsFileOf : Option Disk → World → Text → Option ProjectFile → Type 0
IsFileOf disk w dir found = IfVisible disk (λ reading. IsFileFound found (first_file (seen w reading) (project_files dir)))

-- ---- over every host

-- the files and the child processes are as before
pub record Looked (before after : Outside) : Type 0 where
  pub disk : after.disk ≡ before.disk
  pub children : after.children ≡ before.children
  pub keeps : Keeps before after

-- A fault of the host comes only where the count of its faults rose; else, unless memory ran out, the count is as before.
abbrev pub CountsFault : LoadFault → Outside → Outside → Type 0
CountsFault faults.Host before after = Rose before.faults after.faults
CountsFault faults.OutOfMemory before after = Unit {0}
CountsFault _ before after = after.faults ≡ before.faults

abbrev pub Counts : {A : Type 0} → Result A LoadFault → Outside → Outside → Type 0
Counts (Ok a) before after = after.faults ≡ before.faults
Counts (Err fault) before after = CountsFault fault before after

-- the fault of a load whose host had a fault
abbrev pub of_io : IoFault → LoadFault
of_io io.Failed = faults.Host
of_io io.OutOfMemory = faults.OutOfMemory

-- a fault of the outside: of the host, or out of memory
abbrev pub IsOfOutside : LoadFault → Type 0
IsOfOutside faults.Host = Unit {0}
IsOfOutside faults.OutOfMemory = Unit {0}
IsOfOutside _ = ⊥

abbrev pub IsOfOutsideIf : {A : Type 0} → Result A LoadFault → Type 0
IsOfOutsideIf (Ok a) = Unit {0}
IsOfOutsideIf (Err fault) = IsOfOutside fault

-- the files were looked at, and nothing refuses but the outside
pub record LooksFor {A : Type 0} (result : Result A LoadFault) (before after : Outside) : Type 0 where
  pub looked : Looked before after
  pub counts : Counts result before after
  pub fault : IsOfOutsideIf result
