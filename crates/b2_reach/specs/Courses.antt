-- What is done to the host while files are scanned: reads, each with its line in the log directly after it.
use Rattle.std.specs.Prelude.{◌≡◌, ◌⊎◌, ℕ, Bool, true, false, List, [], ◌∷◌, ◌++◌, Option, Some, None, Result, Ok, Err, OnOk}
use Rattle.std.specs.Option.{IfSome}
use Rattle.std.specs.List.{Contains, AllByRecursion}
use Rattle.b2_host.specs.declared.fault.IoFault.{IoFault}
use Rattle.b2_host.specs.Disks.{Folder, IsConsistent}
use Rattle.b2_host.specs.ChildProcesses.{BothTold}
use Rattle.b2_host.specs.Outside.{Outside}
use Rattle.b2_host.specs.FileCalls.{log_path, after_read, Appends}
use Rattle.b2_plan.specs.declared.step.Step.{Step}
use Rattle.b2_log.specs.declared.line.ScanLine.{ScanLine}
use Rattle.b2_log.specs.declared.line.LogLine.{LogLine}
use Rattle.b2_log.specs.declared.line.LogLine.TheVariants as lines
use Rattle.b2_host.specs.LogChanges.{ChangesOnlyLog}
use Rattle.b2_log.specs.Lines.{spelling}
use Rattle.b2_log.specs.Good.{IsGood}
use Rattle.b2_log.specs.Finding.{find_scan}
use Rattle.b2_facts.specs.declared.file_facts.FileFacts.{FileFacts}
use Rattle.b2_facts.specs.declared.file_facts.FileLook.TheVariants as seen
use Rattle.b2_facts.specs.Facts.{Knowledge, IsFile}
use Rattle.b2_journal.specs.Notes.{HasLines, IsNoteCut, Notes}
use Rattle.b2_facts.specs.declared.stop.FilesStop.{FilesStop}
use Rattle.b2_reach.specs.Files.{IsAtHand}

-- A member is to be read: it is scanned, at hand, and was seen to stand with this stamp, for which the log has no scan line.
pub record IsDueToRead (steps : List Step) (settled : ℕ → Type 0) (f : Knowledge) (members : List ℕ)
    (log : List LogLine) (path : List ℕ) (stamp : ℕ) : Type 0 where
  pub number : ℕ
  pub among : Contains members number
  pub file : FileFacts
  pub is_file : IsFile f number path file
  pub scanned : file.scanned ≡ true
  pub at_hand : IsAtHand steps settled file
  pub stands : file.seen ≡ seen.Stands stamp
  pub unknown : find_scan path stamp log ≡ None

-- the line of a member that was read is noted, by a call directly after the read
pub record IsScanNoted (steps : List Step) (settled : ℕ → Type 0) (f : Knowledge) (members : List ℕ)
    (log : List LogLine) (line : ScanLine) (before after : Outside) (result : Result (Unit {0}) IoFault) : Type 0 where
  pub read : IsDueToRead steps settled f members log line.path line.stamp
  pub includes : read.file.includes ≡ Some line.includes
  pub appends : Appends log_path (spelling (lines.Scan line)) (after_read line.path before) after result
  pub notes : BothTold (λ old new. Notes (lines.Scan line) log old new result) before.disk after.disk
  pub good : OnOk result (AllByRecursion IsGood (log ++ lines.Scan line ∷ []))
  pub only_log : ChangesOnlyLog before after
  pub consistent : IfSome after.disk IsConsistent

-- a read has no line: lines are not noted, or the file was gone when it was read
abbrev pub HasNoLine : Bool → List ℕ → Outside → Type 0
HasNoLine notes path before = (notes ≡ false) ⊎ IfSome before.disk (λ disk. disk.now path ≡ None)

-- How a host and a log go on while members are scanned: nothing is done but looks; or a member is read that has no line; or one is
-- read, and its line is noted, where lines are.
pub data Course (notes : Bool) (steps : List Step) (settled : ℕ → Type 0) (f : Knowledge) (members : List ℕ) : List LogLine
    → Outside → List LogLine → Outside → Type 0 where
  looks : (log : List LogLine) (before after : Outside) → after ≡ record before { faults = after.faults }
      → Course notes steps settled f members log before log after
  read : (log : List LogLine) (before : Outside) (path : List ℕ) (stamp : ℕ)
      → IsDueToRead steps settled f members log path stamp → HasNoLine notes path before
      → Course notes steps settled f members log before log (after_read path before)
  noted : (log : List LogLine) (before after : Outside) (line : ScanLine) (x : Unit {0}) → notes ≡ true
      → IsScanNoted steps settled f members log line before after (Ok x)
      → Course notes steps settled f members log before (log ++ lines.Scan line ∷ []) after
  next : (log more most : List LogLine) (x y z : Outside) → Course notes steps settled f members log x more y
      → Course notes steps settled f members more y most z → Course notes steps settled f members log x most z

-- How they go on up to a stop: so, or last of all a member was read that has no line, or the note of a line failed.
pub data CourseToStop (notes : Bool) (steps : List Step) (settled : ℕ → Type 0) (f : Knowledge) (members : List ℕ)
    (log : List LogLine) (x : Outside) (more : List LogLine) (z : Outside) : Type 0 where
  whole : Course notes steps settled f members log x more z → CourseToStop notes steps settled f members log x more z
  unnoted : (y : Outside) (path : List ℕ) (stamp : ℕ) → Course notes steps settled f members log x more y
      → IsDueToRead steps settled f members more path stamp → z ≡ after_read path y
      → CourseToStop notes steps settled f members log x more z
  cut : (y : Outside) (line : ScanLine) (fault : IoFault) → notes ≡ true
      → Course notes steps settled f members log x more y
      → IsScanNoted steps settled f members more line y z (Err fault)
      → CourseToStop notes steps settled f members log x more z

-- how they go on, by the result
abbrev pub CourseTold : {T : Type 0} → Bool → List Step → (ℕ → Type 0) → Knowledge → List ℕ → List LogLine → Outside
    → List LogLine → Outside → Result T FilesStop → Type 0
CourseTold notes steps settled f members log before more after (Ok x) =
    Course notes steps settled f members log before more after
CourseTold notes steps settled f members log before more after (Err stop) =
    CourseToStop notes steps settled f members log before more after

-- Where files are visible the log's file has the lines, or the note of one more failed.
pub data LeavesLines (entry : Option (List ℕ)) (log : List LogLine) (now : Folder) : Type 0 where
  all : HasLines entry now log → LeavesLines entry log now
  cut_in : (before : Folder) (line : ScanLine) → HasLines entry before log
      → IsNoteCut before now log (lines.Scan line) → LeavesLines entry log now
