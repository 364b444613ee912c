use Rattle.std.specs.Prelude.{◌≡◌, ◌≢◌, ℕ, true, false, List, Some, None, ⊤}
use Rattle.std.specs.List.{Contains, AllPairs}
use Rattle.b2_host.specs.declared.children.ChildEvent.{ChildEvent}
use Rattle.b2_host.specs.declared.children.ChildEvent.TheVariants.{Start, Done}
use Rattle.b2_host.specs.Disks.{File, Folder, Disk, Past, Stood, IsConsistent, bytes_at}
use Rattle.b2_host.specs.ChildProcesses.{Given, Child}
use Rattle.b2_plan.specs.declared.step.Step.{Step}
use Rattle.b2_plan.specs.Plans.{Makes}
use Rattle.b2_host.specs.FileCalls.{log_path}
use Rattle.b2_plan.specs.Closures.{Value}
use Rattle.b2_plan.specs.Cleans.{Clean}
use Rattle.b2_log.specs.declared.line.LogLine.{LogLine}
use Rattle.b2_runs.specs.Logs.{RecordsTrue, ScansTrue, NoCollision}
use Rattle.b2_runs.specs.LogFiles.{IsLogIn}
use Rattle.b2_runs.specs.Staleness.{Update, making}
use Rattle.b2_runs.specs.Events.{IsOpen}
use Rattle.b2_runs.specs.Runs.{IsGivenClosure}
use Rattle.b2_runs.specs.Outcomes.{OnlyOutputsChange}

-- where the value is bytes, a file with these bytes stands there
abbrev pub Holds : Folder → List ℕ → Value → Type 0
Holds folder path None = ⊤
Holds folder path (Some bytes) = bytes_at folder path ≡ Some bytes

-- where judging is by digests, no two contents of the past have one
abbrev pub Distinguishes : Update → List Past → Type 0
Distinguishes u past = u.by_digest ≡ true → NoCollision u.digest past

-- What an update uses of the log on a disk is true: its scan lines, and its records unless all is to run.
pub record UsesTrueLines (u : Update) (disk : Disk) : Type 0 where
  pub records : u.all ≡ false → (log : List LogLine) → IsLogIn disk.now log → RecordsTrue (making u) disk.past log
  pub scans : (log : List LogLine) → IsLogIn disk.now log → ScansTrue (making u) disk.past log

-- How the disk stands to an update after these events: the files at entry have stood; the records of the log at entry are
-- true, unless all is to run; what was done well has the values of the clean build; nothing else has changed but the log and
-- outputs of started steps; and digests tell contents from one another where they are compared.
pub record IsSound (u : Update) (events : List ChildEvent) (disk : Disk) : Type 0 where
  pub keeps : IsConsistent disk
  pub entry_stood : (path : List ℕ) (file : File) → u.build.folder path ≡ Some file → Stood disk.past path file
  pub records_true : u.all ≡ false → RecordsTrue (making u) disk.past u.log
  pub done_well : (i : ℕ) (step : Step) (path : List ℕ) → Makes u.build.steps i step path → Contains events (Done i true) → (value : Value) × Clean u.build path value × Holds disk.now path value
  pub only_outputs : OnlyOutputsChange u events u.build.folder disk.now
  pub distinct : Distinguishes u disk.past

-- the step was started and has not ended well: it runs, or it failed
abbrev pub IsLoose : List ChildEvent → ℕ → Type 0
IsLoose events i = Contains events (Start i) × (Contains events (Done i true) → ⊥)

-- Between two events nothing changes but the log and outputs of steps that run or failed, and what stood is not forgotten.
pub record IsAllowedChange (u : Update) (events : List ChildEvent) (before after : Disk) : Type 0 where
  pub keeps : IsConsistent after
  pub others : (path : List ℕ) → (path ≡ log_path → ⊥) → ((i : ℕ) (step : Step) → Makes u.build.steps i step path → IsLoose events i → ⊥) → after.now path ≡ before.now path
  pub grows : (old : Past) → Contains before.past old → Contains after.past old

-- The child is that of an open step, and was given what the step is to be given.
pub record IsAtWork (u : Update) (events : List ChildEvent) (child : Child) : Type 0 where
  pub is_open : IsOpen events child.step
  pub given : Given
  pub told : child.given ≡ Some given
  pub given_closure : IsGivenClosure u child.step given
  pub ins : child.ins ≡ given.ins
  pub outs : child.outs ≡ given.outs

-- The children that run are those of the open steps, each once and at work.
pub record AreAtWork (u : Update) (events : List ChildEvent) (running : List Child) : Type 0 where
  pub each : (child : Child) → Contains running child → IsAtWork u events child
  pub once : AllPairs (λ child other. child.step ≢ other.step) running
  pub whole : (i : ℕ) → IsOpen events i → (child : Child) × Contains running child × (child.step ≡ i)
