-- How what is known grows while members are taken in, and that it stays true.
use Rattle.std.specs.Prelude.{◌≡◌, ◌⊎◌, ⊤, ℕ, Bool, true, false, List, Some, Result, Ok, Err, OnOk}
use Rattle.std.specs.Option.{IfSome}
use Rattle.std.specs.List.{Contains}
use Rattle.b2_host.specs.Disks.{Disk, IsConsistent}
use Rattle.b2_host.specs.ChildProcesses.{BothTold}
use Rattle.b2_host.specs.Outside.{Outside}
use Rattle.b2_host.specs.FileCalls.{log_path}
use Rattle.b2_host.specs.LogChanges.{ChangesOnlyLog}
use Rattle.b2_plan.specs.declared.step.Step.{Step}
use Rattle.b2_plan.specs.Plans.{Apart}
use Rattle.b2_log.specs.declared.line.ScanLine.{ScanLine}
use Rattle.b2_log.specs.declared.line.LogLine.{LogLine}
use Rattle.b2_log.specs.Finding.{find_scan}
use Rattle.b2_runs.specs.Logs.{ScansTrue}
use Rattle.b2_runs.specs.Staleness.{Update, making}
use Rattle.b2_facts.specs.declared.file_facts.FileFacts.{FileFacts}
use Rattle.b2_facts.specs.declared.file_facts.FileLook.TheVariants as seen
use Rattle.b2_facts.specs.declared.fault.ReadFault.TheVariants as faults
use Rattle.b2_facts.specs.Facts.{Knowledge, IsFile, IsRead, IsBlank, IsAbout, found_at}
use Rattle.b2_facts.specs.Growth.{Learns}
use Rattle.b2_facts.specs.Truth.{IsBuildOf, KeepsSources, AreTrue}
use Rattle.b2_facts.specs.Asks.{IsTooBigFor}
use Rattle.b2_facts.specs.declared.stop.FilesStop.{FilesStop}
use Rattle.b2_facts.specs.declared.stop.FilesStop.TheVariants as stops
use Rattle.b2_reach.specs.declared.sights.Sights.{Sights}
use Rattle.b2_reach.specs.Files.{IsAtHand, IsNumberAtHand}
use Rattle.b2_facts.specs.Stops.{StopTold}
use Rattle.b2_reach.specs.Courses.{CourseTold}

-- ---- what is true

-- nothing is known of the log's own file
abbrev pub NothingOfLog : Knowledge → Type 0
NothingOfLog f = (n : ℕ) (file : FileFacts) → IsFile f n log_path file → IsBlank file

-- What is known is true of the files as they stand, and the scan lines of the log are true.
pub record IsTrueSight (u : Update) (disk : Disk) (s : Sights) : Type 0 where
  pub consistent : IsConsistent disk
  pub sources : KeepsSources u.build disk.now
  pub about : IsAbout u.build.steps u.build.roots s.facts
  pub facts : AreTrue u.build disk.now s.facts
  pub log_unseen : NothingOfLog s.facts
  pub scans : ScansTrue (making u) disk.past s.journal

-- what is true of an update of this plan stays true
abbrev pub StaysTrueSight : List Step → List (List ℕ) → Sights → Sights → Disk → Disk → Type 0
StaysTrueSight steps roots s t before after = (u : Update) → Apart u.build.steps u.build.roots
    → IsBuildOf steps roots u.build → IsTrueSight u before s → IsTrueSight u after t

-- ---- scan lines

-- The file was seen to stand, and the log has a scan line for its stamp.
pub record HasScanLine (log : List LogLine) (path : List ℕ) (file : FileFacts) : Type 0 where
  pub stamp : ℕ
  pub stands : file.seen ≡ seen.Stands stamp
  pub line : ScanLine
  pub found : find_scan path stamp log ≡ Some line

-- the log has the scan line of each file of which is known what it includes
abbrev pub AreLined : Knowledge → List LogLine → Type 0
AreLined f log = (n : ℕ) (path : List ℕ) (file : FileFacts) → IsFile f n path file → IsRead file → HasScanLine log path file

-- where all is true the log goes on to have these lines
abbrev pub StaysLined : List Step → List (List ℕ) → Sights → Sights → Disk → Disk → Type 0
StaysLined steps roots s t before after = (u : Update) → Apart u.build.steps u.build.roots
    → IsBuildOf steps roots u.build → IsTrueSight u before s
    → AreLined s.facts s.journal → AreLined t.facts t.journal

-- ---- files that are too big

-- A file is too big to be scanned: it is a member, scanned and at hand, and where files are visible it has so many bytes, which
-- are more than are scanned.
pub record IsTooBigTold (steps : List Step) (settled : ℕ → Type 0) (f : Knowledge) (members : List ℕ)
    (number size : ℕ) (after : Outside) : Type 0 where
  pub among : Contains members number
  pub path : List ℕ
  pub file : FileFacts
  pub is_file : IsFile f number path file
  pub scanned : file.scanned ≡ true
  pub at_hand : IsAtHand steps settled file
  pub told : IfSome after.disk (λ disk. IsTooBigFor 16777216 path disk.now (faults.TooBig size))

-- where a stop says so
abbrev pub TellsTooBig : {T : Type 0} → List Step → (ℕ → Type 0) → Knowledge → List ℕ → Outside → Result T FilesStop → Type 0
TellsTooBig steps settled f members after (Ok x) = ⊤
TellsTooBig steps settled f members after (Err stops.Host) = ⊤
TellsTooBig steps settled f members after (Err stops.OutOfMemory) = ⊤
TellsTooBig steps settled f members after (Err (stops.TooBig number size)) =
    IsTooBigTold steps settled f members number size after

-- ---- how it grows

-- What is known grows while members are taken in. Of files that a step makes, or that lie under an output root, nothing new is
-- known but of those at hand. Nothing changes on the host but the log's file, which has the line of each member that was read; where
-- lines are not noted, it does not change. Where they are and work did not stop, the log goes on to have the line of each file of
-- which is known what it includes.
pub record LearnsMore {T : Type 0} (notes : Bool) (steps : List Step) (roots : List (List ℕ)) (settled : ℕ → Type 0)
    (members : List ℕ) (s : Sights) (before : Outside) (t : Sights) (after : Outside) (result : Result T FilesStop) : Type 0 where
  pub only_log : ChangesOnlyLog before after
  pub faults : StopTold before after result
  pub learns : Learns steps roots (IsNumberAtHand steps settled t.facts) s.facts t.facts
  pub course : CourseTold notes steps settled t.facts members s.journal before t.journal after result
  pub told : BothTold (StaysTrueSight steps roots s t) before.disk after.disk
  pub lined : notes ≡ true → OnOk result (BothTold (StaysLined steps roots s t) before.disk after.disk)
  pub too_big : TellsTooBig steps settled t.facts members after result
  pub by_digest : t.by_digest ≡ s.by_digest

-- ---- what single calls do

-- what a file includes is known, or the file is gone
abbrev pub IsReadOrGone : FileFacts → Bool → Type 0
IsReadOrGone file true = IsRead file
IsReadOrGone file false = file.seen ≡ seen.Gone

-- the files that a file includes were found, or the file is gone
abbrev pub IsFoundOrGone : Knowledge → ℕ → ℕ → FileFacts → Type 0
IsFoundOrGone f list n file = ((targets : List ℕ) × (found_at f list n ≡ Some targets)) ⊎ (file.seen ≡ seen.Gone)
