use Rattle.std.specs.Prelude.{◌≡◌, ◌≢◌, ◌⊎◌, ℕ, ◌<◌, ◌≤◌, Bool, true, false, List, [], ◌∷◌, ◌++◌, length, Some}
use Rattle.std.specs.List.{Contains, AllPairs}
use Rattle.b2_host.specs.declared.children.ChildEvent.{ChildEvent}
use Rattle.b2_host.specs.declared.children.ChildEvent.TheVariants.{Done}
use Rattle.b2_host.specs.Disks.{Folder, Disk, Past, IsOneEach, bytes_at}
use Rattle.b2_host.specs.Outside.{Read}
use Rattle.b2_plan.specs.Plans.{Apart}
use Rattle.b2_host.specs.FileCalls.{log_path, stamp_at}
use Rattle.b2_plan.specs.Cleans.{Clean}
use Rattle.b2_log.specs.declared.line.ScanLine.{ScanLine}
use Rattle.b2_log.specs.declared.line.LogLine.{LogLine}
use Rattle.b2_log.specs.declared.line.LogLine.TheVariants as lines
use Rattle.b2_log.specs.Finding.{find_scan}
use Rattle.b2_runs.specs.Staleness.{Update}
use Rattle.b2_runs.specs.Events.{IsOpen}
use Rattle.b2_runs.specs.Runs.{Settled, on_settled, MayCome}
use Rattle.b2_runs.specs.Soundness.{IsSound, IsAllowedChange}
use Rattle.b2_runs.specs.FileReads.{scan_limit, digest_limit, IsInput, IsNeededOut, IsToScan, IsTooBig, IsLogThen, IsCalledFor, ReadsOnce, IsScanRead, ReadsLeaveLines, StandsWithLine, HaveLines}

-- ---- files that are too big

-- a file that is to be scanned and has more bytes than are scanned is too big, and stands
abbrev pub LargeIsTooBig : Type 0
LargeIsTooBig = (u : Update) (events : List ChildEvent) (disk : Disk) (path bytes : List ℕ) → Apart u.build.steps u.build.roots → IsSound u events disk → IsToScan u events path bytes → scan_limit < length bytes → IsTooBig u events disk.now path (length bytes) × (bytes_at disk.now path ≡ Some bytes)

-- where a file is too big it stands with so many bytes, and these are more than are scanned
abbrev pub TooBigIsLarge : Type 0
TooBigIsLarge = (u : Update) (events : List ChildEvent) (disk : Disk) (path : List ℕ) (size : ℕ) → Apart u.build.steps u.build.roots → IsSound u events disk → IsTooBig u events disk.now path size → (bytes : List ℕ) × (bytes_at disk.now path ≡ Some bytes) × (size ≡ length bytes) × (scan_limit < size)

-- No scanned member of a needed closure is above the limit. Where judging is by digests, no member or output of a needed step is
-- above it, at entry or in the clean build.
pub record NoneLarge (u : Update) (events : List ChildEvent) : Type 0 where
  pub scanned : (path bytes : List ℕ) → IsToScan u events path bytes → length bytes ≤ scan_limit
  pub inputs : u.by_digest ≡ true → (path bytes : List ℕ) → IsInput u events path → on_settled u events path (Some bytes) → length bytes ≤ digest_limit
  pub at_entry : u.by_digest ≡ true → (path bytes : List ℕ) → IsNeededOut u events path → bytes_at u.build.folder path ≡ Some bytes → length bytes ≤ digest_limit
  pub in_clean : u.by_digest ≡ true → (path bytes : List ℕ) → IsNeededOut u events path → Clean u.build path (Some bytes) → length bytes ≤ digest_limit

-- where that is so no file is too big
abbrev pub NothingTooBig : Type 0
NothingTooBig = (u : Update) (events : List ChildEvent) (disk : Disk) (path : List ℕ) (size : ℕ) → Apart u.build.steps u.build.roots → IsSound u events disk → NoneLarge u events → IsTooBig u events disk.now path size → ⊥

-- a file that is too big stays so as a step ends
abbrev pub TooBigThroughEnd : Type 0
TooBigThroughEnd = (u : Update) (events : List ChildEvent) (now : Folder) (path : List ℕ) (size i : ℕ) (well : Bool) → Apart u.build.steps u.build.roots → IsOpen events i → IsTooBig u events now path size → IsTooBig u (events ++ Done i well ∷ []) now path size

-- a file that is too big stays so as steps that run or failed change their outputs: so it is what was told, wherever the update ends
abbrev pub TooBigThroughChange : Type 0
TooBigThroughChange = (u : Update) (events : List ChildEvent) (before after : Disk) (path : List ℕ) (size : ℕ) → Apart u.build.steps u.build.roots → IsAllowedChange u events before after → IsTooBig u events before.now path size → IsTooBig u events after.now path size

-- ---- reads

-- an update that has read nothing reads once
abbrev pub ReadsNone : Type 0
ReadsNone = (u : Update) (events : List ChildEvent) (past : List Past) → ReadsOnce u events past []

-- an update that reads once still does when it then reads the log, or what is called for
abbrev pub ReadsMore : Type 0
ReadsMore = (u : Update) (events : List ChildEvent) (past : List Past) (reads : List Read) (read : Read) → ReadsOnce u events past reads → (read.path ≡ log_path) ⊎ IsCalledFor u events past read → ReadsOnce u events past (reads ++ read ∷ [])

-- an update that reads once still does as events come
abbrev pub ReadsAlong : Type 0
ReadsAlong = (u : Update) (events : List ChildEvent) (event : ChildEvent) (past : List Past) (reads : List Read) → Apart u.build.steps u.build.roots → MayCome u events event → ReadsOnce u events past reads → ReadsOnce u (events ++ event ∷ []) past reads

-- an update that reads once still does as an open step ends, though others could start: a fault has come, and it only waits
abbrev pub ReadsThroughEnd : Type 0
ReadsThroughEnd = (u : Update) (events : List ChildEvent) (i : ℕ) (well : Bool) (past : List Past) (reads : List Read) → Apart u.build.steps u.build.roots → IsOpen events i → ReadsOnce u events past reads → ReadsOnce u (events ++ Done i well ∷ []) past reads

-- what a needed step is known to read stays so as an open step ends
abbrev pub InputThroughEnd : Type 0
InputThroughEnd = (u : Update) (events : List ChildEvent) (i : ℕ) (well : Bool) (path : List ℕ) → Apart u.build.steps u.build.roots → IsOpen events i → IsInput u events path → IsInput u (events ++ Done i well ∷ []) path

-- what a needed step makes stays so as an open step ends
abbrev pub NeededOutThroughEnd : Type 0
NeededOutThroughEnd = (u : Update) (events : List ChildEvent) (i : ℕ) (well : Bool) (path : List ℕ) → Apart u.build.steps u.build.roots → IsOpen events i → IsNeededOut u events path → IsNeededOut u (events ++ Done i well ∷ []) path

-- an update that reads once still does where more has stood
abbrev pub ReadsAsPastGrows : Type 0
ReadsAsPastGrows = (u : Update) (events : List ChildEvent) (past more : List Past) (reads : List Read) → ((old : Past) → Contains past old → Contains more old) → ReadsOnce u events past reads → ReadsOnce u events more reads

-- judged by stamps, no file is read whose stamp has a scan line in the log
abbrev pub ScannedIsNotRead : Type 0
ScannedIsNotRead = (u : Update) (events : List ChildEvent) (past : List Past) (reads : List Read) (read : Read) (stamp : ℕ) (log : List LogLine) (s : ScanLine) → u.by_digest ≡ false → IsOneEach past → ReadsOnce u events past reads → Contains reads read → read.path ≢ log_path
    → read.stamp ≡ Some stamp → IsLogThen past read.log log → find_scan read.path stamp log ≡ Some s → ⊥

-- judged by stamps, no file is read that is not scanned
abbrev pub UnscannedIsNotRead : Type 0
UnscannedIsNotRead = (u : Update) (events : List ChildEvent) (past : List Past) (reads : List Read) (read : Read) → u.by_digest ≡ false → ReadsOnce u events past reads → Contains reads read → read.path ≢ log_path → u.scanned read.path ≡ false → ⊥

-- ---- the lines that reads leave

-- an update that has read nothing owes no line
abbrev pub LinesOfNone : Type 0
LinesOfNone = (u : Update) (events : List ChildEvent) (past : List Past) (now : Folder) (log : List LogLine) → ReadsLeaveLines u past [] × HaveLines u events past now log []

-- where all reads so far have their lines in the log, one more may come
abbrev pub LinesBeforeRead : Type 0
LinesBeforeRead = (u : Update) (events : List ChildEvent) (past : List Past) (now : Folder) (log : List LogLine) (reads : List Read) (next : Read) → HaveLines u events past now log reads → IsLogThen past next.log log → ReadsLeaveLines u past reads → ReadsLeaveLines u past (reads ++ next ∷ [])

-- a read whose line stands in the log has it with the others, and the log's own needs none
abbrev pub LinesAfterRead : Type 0
LinesAfterRead = (u : Update) (events : List ChildEvent) (past : List Past) (now : Folder) (log : List LogLine) (reads : List Read) (read : Read) → ((stamp : ℕ) → IsScanRead u past read stamp → StandsWithLine u events now log read.path stamp)
    → HaveLines u events past now log reads → HaveLines u events past now log (reads ++ read ∷ [])

-- reads that leave their lines still do where more has stood
abbrev pub LinesAsPastGrows : Type 0
LinesAsPastGrows = (u : Update) (events : List ChildEvent) (past more : List Past) (now : Folder) (log : List LogLine) (reads : List Read) → ((old : Past) → Contains past old → Contains more old)
    → (ReadsLeaveLines u past reads → ReadsLeaveLines u more reads) × (HaveLines u events past now log reads → HaveLines u events more now log reads)

-- a file that stands with its line does as a line is appended, where a scan line has the stamp of its file as it stands
abbrev pub StandsAfterLine : Type 0
StandsAfterLine = (u : Update) (events : List ChildEvent) (now : Folder) (log : List LogLine) (path : List ℕ) (stamp : ℕ) (line : LogLine) → ((s : ScanLine) → line ≡ lines.Scan s → stamp_at now s.path ≡ Some s.stamp)
    → StandsWithLine u events now log path stamp → StandsWithLine u events now (log ++ line ∷ []) path stamp

-- a file that stands with its line does as events come that leave settled what was
abbrev pub StandsAlong : Type 0
StandsAlong = (u : Update) (events more : List ChildEvent) (now : Folder) (log : List LogLine) (path : List ℕ) (stamp : ℕ) → ((other : List ℕ) → Settled u events other → Settled u more other)
    → StandsWithLine u events now log path stamp → StandsWithLine u more now log path stamp

-- a file that stands with its line does as steps that run or failed change their outputs
abbrev pub StandsAfterChange : Type 0
StandsAfterChange = (u : Update) (events : List ChildEvent) (before after : Disk) (log : List LogLine) (path : List ℕ) (stamp : ℕ) → Apart u.build.steps u.build.roots → IsAllowedChange u events before after
    → StandsWithLine u events before.now log path stamp → StandsWithLine u events after.now log path stamp

-- judged by stamps, no file is read twice as it stands
abbrev pub NoneReadTwice : Type 0
NoneReadTwice = (u : Update) (events : List ChildEvent) (past : List Past) (reads : List Read) → u.by_digest ≡ false → IsOneEach past → ReadsOnce u events past reads → ReadsLeaveLines u past reads
    → AllPairs (λ read next. (stamp : ℕ) → IsScanRead u past read stamp → next.path ≡ read.path → next.stamp ≡ Some stamp → ⊥) reads
