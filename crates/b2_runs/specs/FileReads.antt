use Rattle.std.specs.Prelude.{◌≡◌, ◌≢◌, ℕ, ◌<◌, ◌≤◌, true, false, List, [], length, Option, Some, None, ◌⊎◌}
use Rattle.std.specs.List.{Contains, AllPairs}
use Rattle.b2_host.specs.declared.children.ChildEvent.{ChildEvent}
use Rattle.b2_host.specs.declared.children.ChildEvent.TheVariants.{Start, Done}
use Rattle.b2_host.specs.Disks.{File, Folder, Past, Stood, bytes_at}
use Rattle.b2_host.specs.Outside.{Read}
use Rattle.b2_plan.specs.declared.step.Step.{Step}
use Rattle.b2_plan.specs.Plans.{step_at, Makes}
use Rattle.b2_host.specs.FileCalls.{log_path, stamp_at}
use Rattle.b2_plan.specs.Closures.{Value, Known, IsClosure}
use Rattle.b2_log.specs.declared.line.ScanLine.{ScanLine}
use Rattle.b2_log.specs.declared.line.LogLine.{LogLine}
use Rattle.b2_log.specs.Readings.{IsReading}
use Rattle.b2_log.specs.Finding.{find_scan}
use Rattle.b2_runs.specs.Staleness.{Update}
use Rattle.b2_runs.specs.Runs.{Settled, on_settled, Needed}

-- Which files an update reads, and which are too big for it.

-- how many bytes of a file are scanned at most
abbrev pub scan_limit : ℕ
scan_limit = 16777216

-- how many bytes of a file are digested at most
abbrev pub digest_limit : ℕ
digest_limit = 268435456

-- a needed step is known to read the file
pub record IsInput (u : Update) (events : List ChildEvent) (path : List ℕ) : Type 0 where
  pub number : ℕ
  pub needed : Needed u events number
  pub step : Step
  pub at : step_at u.build.steps number ≡ Some step
  pub known : Known u.build (on_settled u events) step path

-- the file is an output of a needed step
pub record IsNeededOut (u : Update) (events : List ChildEvent) (path : List ℕ) : Type 0 where
  pub number : ℕ
  pub needed : Needed u events number
  pub step : Step
  pub makes : Makes u.build.steps number step path

-- A file is to have a scan line: it is one that is scanned, a needed step is known to read it, and it is settled with these
-- bytes.
pub record IsToScan (u : Update) (events : List ChildEvent) (path bytes : List ℕ) : Type 0 where
  pub scanned : u.scanned path ≡ true
  pub input : IsInput u events path
  pub settled : on_settled u events path (Some bytes)

-- A file is to be digested, judging being by digests: a needed step is known to read it, and it is settled with these bytes; or
-- it is an output that a needed step owes, all of whose closure is settled, and it stands as at entry or was made well.
pub data IsToDigest (u : Update) (events : List ChildEvent) (now : List ℕ → Option File) (path bytes : List ℕ) : Type 0 where
  input : u.by_digest ≡ true → IsInput u events path → on_settled u events path (Some bytes) → IsToDigest u events now path bytes
  output : (out : IsNeededOut u events path) (members : List (List ℕ × Value)) → u.by_digest ≡ true → out.step.notfile ≡ false → IsClosure u.build (on_settled u events) out.step members → (Contains events (Start out.number) → ⊥) ⊎ Contains events (Done out.number true) → bytes_at now path ≡ Some bytes → IsToDigest u events now path bytes

-- A file is too big: it is to be scanned and has more bytes than are scanned, or to be digested and has more than are digested.
pub data IsTooBig (u : Update) (events : List ChildEvent) (now : List ℕ → Option File) (path : List ℕ) (size : ℕ) : Type 0 where
  to_scan : (bytes : List ℕ) → IsToScan u events path bytes → size ≡ length bytes → scan_limit < size → IsTooBig u events now path size
  to_digest : (bytes : List ℕ) → IsToDigest u events now path bytes → size ≡ length bytes → digest_limit < size → IsTooBig u events now path size

-- the lines of the log as it stood at a read, by the stamp that its file had: those that it was read as, and none where none
-- stood
abbrev pub IsLogThen : List Past → Option ℕ → List LogLine → Type 0
IsLogThen past None log = log ≡ []
IsLogThen past (Some stamp) log = (bytes : List ℕ) × (good : ℕ) × Stood past log_path (record { stamp = stamp; bytes = bytes }) × IsReading bytes log good

-- A read is called for: it is of a scanned file that a needed step is known to read, at a stamp for which the log as it then
-- stood has no scan line; or judging is by digests, and it is of a file that a needed step is known to read or makes.
pub data IsCalledFor (u : Update) (events : List ChildEvent) (past : List Past) (read : Read) : Type 0 where
  to_scan : (stamp : ℕ) (log : List LogLine) → u.scanned read.path ≡ true → IsInput u events read.path → read.stamp ≡ Some stamp → IsLogThen past read.log log → find_scan read.path stamp log ≡ None → IsCalledFor u events past read
  to_digest : u.by_digest ≡ true → IsInput u events read.path ⊎ IsNeededOut u events read.path → IsCalledFor u events past read

-- of these reads of an update each is called for, but for those of the log
abbrev pub ReadsOnce : Update → List ChildEvent → List Past → List Read → Type 0
ReadsOnce u events past reads = (read : Read) → Contains reads read → read.path ≢ log_path → IsCalledFor u events past read

-- A read takes in what a file includes: it is of a scanned file, which stood then, at this stamp, with no more bytes than are
-- scanned. Where judging is by digests no step makes the file, for an output may be read for its digest alone.
pub record IsScanRead (u : Update) (past : List Past) (read : Read) (stamp : ℕ) : Type 0 where
  pub scanned : u.scanned read.path ≡ true
  pub not_log : read.path ≢ log_path
  pub at : read.stamp ≡ Some stamp
  pub within : (bytes : List ℕ) → Stood past read.path (record { stamp = stamp; bytes = bytes }) → length bytes ≤ scan_limit
  pub unmade : u.by_digest ≡ true → (i : ℕ) (step : Step) → Makes u.build.steps i step read.path → ⊥

-- The log, whose file had this stamp then, had a scan line of the path at its stamp.
pub record HadLine (past : List Past) (log_stamp : Option ℕ) (path : List ℕ) (stamp : ℕ) : Type 0 where
  pub log : List LogLine
  pub log_then : IsLogThen past log_stamp log
  pub line : ScanLine
  pub found : find_scan path stamp log ≡ Some line

-- of these reads of an update each that takes in what a file includes has its scan line in the log at the next read
abbrev pub ReadsLeaveLines : Update → List Past → List Read → Type 0
ReadsLeaveLines u past reads = AllPairs (λ read next. (stamp : ℕ) → IsScanRead u past read stamp → HadLine past next.log read.path stamp) reads

-- A file is settled, stands with this stamp, and has its scan line in the log.
pub record StandsWithLine (u : Update) (events : List ChildEvent) (now : List ℕ → Option File) (log : List LogLine) (path : List ℕ) (stamp : ℕ) : Type 0 where
  pub settled : Settled u events path
  pub stands : stamp_at now path ≡ Some stamp
  pub line : ScanLine
  pub found : find_scan path stamp log ≡ Some line

-- of these reads each that takes in what a file includes has its scan line in the present log, and the file stands as it was read
abbrev pub HaveLines : Update → List ChildEvent → List Past → Folder → List LogLine → List Read → Type 0
HaveLines u events past now log reads = (read : Read) (stamp : ℕ) → Contains reads read → IsScanRead u past read stamp → StandsWithLine u events now log read.path stamp
