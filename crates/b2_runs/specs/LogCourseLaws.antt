use Rattle.std.specs.Prelude.{◌≡◌, ◌≢◌, ◌⊎◌, ◌↔◌, ℕ, ◌<◌, ◌≤◌, Bool, true, false, List, [], ◌∷◌, ◌++◌, length, Option, Some, None}
use Rattle.std.specs.List.{Contains, AllByRecursion}
use Rattle.b2_host.specs.declared.children.ChildEvent.{ChildEvent}
use Rattle.b2_host.specs.declared.children.ChildEvent.TheVariants.{Start, Done}
use Rattle.b2_host.specs.Disks.{Folder, Disk, IsConsistent, bytes_at}
use Rattle.b2_plan.specs.declared.step.Step.{Step}
use Rattle.b2_plan.specs.Plans.{Apart, Makes, step_at}
use Rattle.b2_host.specs.FileCalls.{log_path, stamp_at, with_piece}
use Rattle.b2_plan.specs.Closures.{Value, IsClosure}
use Rattle.b2_plan.specs.Cleans.{Clean}
use Rattle.b2_log.specs.declared.line.Record.{Record}
use Rattle.b2_log.specs.declared.line.ScanLine.{ScanLine}
use Rattle.b2_log.specs.declared.line.LogLine.{LogLine}
use Rattle.b2_log.specs.declared.line.LogLine.TheVariants as lines
use Rattle.b2_log.specs.Lines.{spelling, log_bytes}
use Rattle.b2_log.specs.Good.{IsGood}
use Rattle.b2_log.specs.Readings.{IsReading}
use Rattle.b2_log.specs.Finding.{find_record, find_scan, kept}
use Rattle.b2_runs.specs.Logs.{LogTrue, RecordsTrue, ScansTrue}
use Rattle.b2_runs.specs.LogFiles.{log_limit, IsLogOf, IsTrueFile, IsLogHeld, IsLogIn}
use Rattle.b2_runs.specs.Staleness.{Update, making, IsFresh, IsRecorded}
use Rattle.b2_runs.specs.Records.{IsRecordOf, IsScanOf}
use Rattle.b2_runs.specs.Events.{IsOpen, AreInOrder}
use Rattle.b2_runs.specs.Runs.{on_settled, IsRunSoFar, IsBegun}
use Rattle.b2_runs.specs.Outcomes.{IsFailed}
use Rattle.b2_runs.specs.Soundness.{IsSound, IsAllowedChange}
use Rattle.b2_runs.specs.FileReads.{IsToScan, IsLogThen, StandsWithLine}
use Rattle.b2_runs.specs.Afterwards.{at_present, next_update, IsMadeEachTime, NoneDoneOlder, IsNotedStep, IsNoted}
use Rattle.b2_runs.specs.LogCourses.{IsLong, Opening, FirstLines, log_file, held_bytes, HasDigestsAlready, IsToMigrate, AllMigrated, IsScannedFile, AllScanned, IsLogAfter, left_file, IsLogWhole, IsLogCut}

-- ---- what a log is opened with

-- a log is opened with one list of lines
abbrev pub FirstLinesAreOne : Type 0
FirstLinesAreOne = (opening : Opening) (bytes : List ℕ) (first other : List LogLine) → FirstLines opening bytes first → FirstLines opening bytes other → first ≡ other

-- the lines that a log is opened with tell of each step what the log's file told
abbrev pub BeginTellsRecords : Type 0
BeginTellsRecords = (opening : Opening) (bytes : List ℕ) (first log : List LogLine) (outs : List (List ℕ)) → FirstLines opening bytes first → IsLogOf bytes log → find_record outs first ≡ find_record outs log

-- the lines that a log is opened with tell of each scanned file what the log's file told
abbrev pub BeginTellsScans : Type 0
BeginTellsScans = (opening : Opening) (bytes : List ℕ) (first log : List LogLine) (path : List ℕ) (stamp : ℕ) → FirstLines opening bytes first → IsLogOf bytes log → find_scan path stamp first ≡ find_scan path stamp log

-- the lines that a log is opened with are among those of its file, so they are true where these are
abbrev pub BeginIsAmong : Type 0
BeginIsAmong = (opening : Opening) (bytes : List ℕ) (first log : List LogLine) (line : LogLine) → FirstLines opening bytes first → IsLogOf bytes log → Contains first line → Contains log line

-- the lines that a log is opened with are good, and within the limit: so the file that has them is read as these lines
abbrev pub BeginIsRead : Type 0
BeginIsRead = (opening : Opening) (bytes : List ℕ) (first : List LogLine) → FirstLines opening bytes first → AllByRecursion IsGood first × (length (log_bytes first) ≤ log_limit)

-- a file of good lines within the limit counts as them
abbrev pub LinesAreRead : Type 0
LinesAreRead = (log : List LogLine) → AllByRecursion IsGood log → length (log_bytes log) ≤ log_limit → IsLogOf (log_bytes log) log

-- the lines of a log count so by the bytes of its file, also where none stands
abbrev pub HeldIsCounted : Type 0
HeldIsCounted = (held : Option (List ℕ)) (log : List LogLine) → IsLogHeld held log → IsLogOf (held_bytes held) log

-- ---- the lines that events call for

-- to the lines that an update began with, lines are only appended
abbrev pub LogGrows : Type 0
LogGrows = (u : Update) (now : Folder) (first log : List LogLine) (events : List ChildEvent) → IsLogAfter u now first events log → (more : List LogLine) × (log ≡ first ++ more)

-- the lines of the course say nothing of outputs that are those of no step of the plan
abbrev pub LogTellsOthers : Type 0
LogTellsOthers = (u : Update) (now : Folder) (first log : List LogLine) (events : List ChildEvent) (outs : List (List ℕ)) → IsLogAfter u now first events log → ((i : ℕ) (step : Step) → step_at u.build.steps i ≡ Some step → step.outs ≢ outs) → find_record outs log ≡ find_record outs first

-- of a step that runs the lines of the course tell what the first lines told, so whether its end calls for a drop
abbrev pub LogTellsOpen : Type 0
LogTellsOpen = (u : Update) (now : Folder) (first log : List LogLine) (events : List ChildEvent) (i : ℕ) (step : Step) → Apart u.build.steps u.build.roots → IsRunSoFar u events → IsLogAfter u now first events log → IsOpen events i → step_at u.build.steps i ≡ Some step
    → find_record step.outs log ≡ find_record step.outs first

-- of a step that was not started the lines of the course tell the same, or it was to get a record with digests and has it
abbrev pub LogTellsUnstarted : Type 0
LogTellsUnstarted = (u : Update) (now : Folder) (first log : List LogLine) (events : List ChildEvent) (i : ℕ) (step : Step) → Apart u.build.steps u.build.roots → IsRunSoFar u events → IsLogAfter u now first events log → (Contains events (Start i) → ⊥) → step_at u.build.steps i ≡ Some step
    → (find_record step.outs log ≡ find_record step.outs first) ⊎ ((members : List (List ℕ × Value)) × IsToMigrate u events step members × IsNotedStep u now log step members)

-- a step that was not started is judged by the lines of the course and by the files as they stand as by those at entry
abbrev pub JudgedByLog : Type 0
JudgedByLog = (u : Update) (events : List ChildEvent) (disk : Disk) (first log : List LogLine) (i : ℕ) (step : Step) (members : List (List ℕ × Value)) → Apart u.build.steps u.build.roots → IsRunSoFar u events → IsSound u events disk
    → ((outs : List (List ℕ)) → find_record outs first ≡ find_record outs u.log) → IsLogAfter u disk.now first events log → step_at u.build.steps i ≡ Some step → (Contains events (Start i) → ⊥) → IsClosure u.build (on_settled u events) step members
    → IsFresh (at_present u disk.now log) events step members ↔ IsFresh u events step members

-- the lines of the course have no record of a step that failed
abbrev pub LogDropsFailed : Type 0
LogDropsFailed = (u : Update) (now : Folder) (first log : List LogLine) (events : List ChildEvent) (i : ℕ) (step : Step) → Apart u.build.steps u.build.roots → IsLogAfter u now first events log → AreInOrder u.build.steps u.jobs events → IsFailed events i → step_at u.build.steps i ≡ Some step
    → find_record step.outs log ≡ None

-- once a file has got its scan line, the log has one at the stamp of the file: no other is called for
abbrev pub ScansOnce : Type 0
ScansOnce = (u : Update) (now : Folder) (log : List LogLine) (path bytes : List ℕ) (s other : ScanLine) → IsScanOf u now path bytes s → IsScanOf u now path bytes other → find_scan path other.stamp (log ++ lines.Scan s ∷ []) ≡ Some s

-- once a step has got its record with digests, the log has one with the stamps of the files: no other is called for
abbrev pub MigratesOnce : Type 0
MigratesOnce = (u : Update) (now : Folder) (log : List LogLine) (step : Step) (members : List (List ℕ × Value)) (r other : Record) → u.by_digest ≡ true → IsRecordOf u now step members r → IsRecordOf u now step members other → HasDigestsAlready step.outs (log ++ lines.Record r ∷ []) other

-- a file that stands with its line has the line of its bytes, where the log's scan lines are true
abbrev pub StandsIsScanned : Type 0
StandsIsScanned = (u : Update) (events : List ChildEvent) (disk : Disk) (log : List LogLine) (path bytes : List ℕ) (stamp : ℕ) → IsConsistent disk → ScansTrue (making u) disk.past log → bytes_at disk.now path ≡ Some bytes
    → StandsWithLine u events disk.now log path stamp → IsScannedFile u disk.now log path bytes

-- where a fresh step has a record with digests already, at the stamps of its files, that is its record
abbrev pub AlreadyIsNoted : Type 0
AlreadyIsNoted = (u : Update) (events : List ChildEvent) (disk : Disk) (log : List LogLine) (step : Step) (members : List (List ℕ × Value)) (r : Record) → IsConsistent disk → RecordsTrue (making u) disk.past log → u.by_digest ≡ true
    → IsFresh (at_present u disk.now log) events step members → IsRecordOf u disk.now step members r → HasDigestsAlready step.outs log r → IsNotedStep u disk.now log step members

-- ---- that no line is lacking

-- no record with digests is called for where judging is by stamps
abbrev pub NoneToMigrate : Type 0
NoneToMigrate = (u : Update) (events : List ChildEvent) (now : Folder) (log : List LogLine) → u.by_digest ≡ false → AllMigrated u events now log

-- a start calls for no other record with digests
abbrev pub MigratedAfterStart : Type 0
MigratedAfterStart = (u : Update) (events : List ChildEvent) (now : Folder) (log : List LogLine) (i : ℕ) → Apart u.build.steps u.build.roots → AllMigrated u events now log → AllMigrated u (events ++ Start i ∷ []) now log

-- no record with digests is lacking after steps that run or failed change their outputs
abbrev pub MigratedAfterChange : Type 0
MigratedAfterChange = (u : Update) (events : List ChildEvent) (before after : Disk) (log : List LogLine) → Apart u.build.steps u.build.roots → IsAllowedChange u events before after → AllMigrated u events before.now log → AllMigrated u events after.now log

-- a start calls for no other scan line
abbrev pub ScannedAfterStart : Type 0
ScannedAfterStart = (u : Update) (events : List ChildEvent) (now : Folder) (log : List LogLine) (i : ℕ)
    → AllScanned u events now log
    → AllScanned u (events ++ Start i ∷ []) now log

-- a bad end calls for no other scan line
abbrev pub ScannedAfterFailure : Type 0
ScannedAfterFailure = (u : Update) (events : List ChildEvent) (now : Folder) (log : List LogLine) (i : ℕ)
    → AllScanned u events now log
    → AllScanned u (events ++ Done i false ∷ []) now log

-- a file that was to have a scan line is to have it after the end of a step too
abbrev pub ToScanAfterEnd : Type 0
ToScanAfterEnd = (u : Update) (events : List ChildEvent) (path bytes : List ℕ) (i : ℕ) (well : Bool)
    → Apart u.build.steps u.build.roots → IsOpen events i
    → IsToScan u events path bytes
    → IsToScan u (events ++ Done i well ∷ []) path bytes

-- A file keeps its scan line as a line is appended. Where that is a scan line, it has the stamp of its file as it stands, and
-- the log had none at this stamp.
abbrev pub ScannedAfterLine : Type 0
ScannedAfterLine = (u : Update) (now : Folder) (log : List LogLine) (line : LogLine) (path bytes : List ℕ)
    → ((s : ScanLine) → line ≡ lines.Scan s → (stamp_at now s.path ≡ Some s.stamp) × (find_scan s.path s.stamp log ≡ None))
    → IsScannedFile u now log path bytes
    → IsScannedFile u now (log ++ line ∷ []) path bytes

-- no scan line is lacking after steps that run or failed change their outputs
abbrev pub ScannedAfterChange : Type 0
ScannedAfterChange = (u : Update) (events : List ChildEvent) (before after : Disk) (log : List LogLine)
    → Apart u.build.steps u.build.roots → IsAllowedChange u events before after
    → AllScanned u events before.now log
    → AllScanned u events after.now log

-- ---- what the lines keep

-- the lines of the course stay what the events call for as steps that run or failed change their outputs
abbrev pub LogMoves : Type 0
LogMoves = (u : Update) (events : List ChildEvent) (before after : Disk) (first log : List LogLine) → Apart u.build.steps u.build.roots → IsRunSoFar u events → IsAllowedChange u events before after → IsLogAfter u before.now first events log → IsLogAfter u after.now first events log

-- the lines of the course are true where the first lines were
abbrev pub LogStaysTrue : Type 0
LogStaysTrue = (u : Update) (events : List ChildEvent) (disk : Disk) (first log : List LogLine) → Apart u.build.steps u.build.roots → IsRunSoFar u events → IsSound u events disk → LogTrue (making u) disk.past first → IsLogAfter u disk.now first events log → LogTrue (making u) disk.past log

-- the scan lines of the course are true where those of the first lines were, whatever the records are
abbrev pub ScansStayTrue : Type 0
ScansStayTrue = (u : Update) (events : List ChildEvent) (disk : Disk) (first log : List LogLine) → Apart u.build.steps u.build.roots → IsRunSoFar u events → IsSound u events disk → ScansTrue (making u) disk.past first → IsLogAfter u disk.now first events log → ScansTrue (making u) disk.past log

-- the last lines of the course are on what was done with each step, where no output that was made is older than what it was made of
abbrev pub LogIsNoted : Type 0
LogIsNoted = (u : Update) (now : Folder) (first log : List LogLine) (events : List ChildEvent) → Apart u.build.steps u.build.roots → IsRunSoFar u events → ((outs : List (List ℕ)) → find_record outs first ≡ find_record outs u.log) → NoneDoneOlder u events now
    → IsLogAfter u now first events log → IsNoted u events now log

-- the record of a step that was done well and owes files is what is found for its outputs
abbrev pub LogHasRecords : Type 0
LogHasRecords = (u : Update) (now : Folder) (first log : List LogLine) (events : List ChildEvent) (i : ℕ) (step : Step) (members : List (List ℕ × Value)) → Apart u.build.steps u.build.roots → AreInOrder u.build.steps u.jobs events → IsLogAfter u now first events log
    → Contains events (Done i true) → step_at u.build.steps i ≡ Some step → step.notfile ≡ false → IsClosure u.build (Clean u.build) step members → IsNotedStep u now log step members

-- ---- the file

-- bytes all of which are good are the spelling of their lines: so a log that is opened as it is has them
abbrev pub GoodBytesAreSpelled : Type 0
GoodBytesAreSpelled = (bytes : List ℕ) (log : List LogLine) → IsReading bytes log (length bytes) → bytes ≡ log_bytes log

-- a log that has a torn tail or is long is replaced by other bytes
abbrev pub ReplacedIsOther : Type 0
ReplacedIsOther = (bytes : List ℕ) (log : List LogLine) (good : ℕ) → IsReading bytes log good → (good < length bytes) ⊎ IsLong log → log_bytes (kept log) ≢ bytes

-- where the spelling of one line more is appended, the file that is left has the bytes of all lines
abbrev pub AppendLeavesFile : Type 0
AppendLeavesFile = (before : Option (List ℕ)) (disk : Disk) (log : List LogLine) (line : LogLine) → log_file disk.now ≡ left_file before (log_bytes log) → Some (with_piece log_path (spelling line) disk) ≡ left_file before (log_bytes (log ++ line ∷ []))

-- the log as it stands when a file is read is these lines
abbrev pub LogStandsThen : Type 0
LogStandsThen = (before : Option (List ℕ)) (disk : Disk) (log : List LogLine) → IsConsistent disk → AllByRecursion IsGood log → log_file disk.now ≡ left_file before (log_bytes log) → IsLogThen disk.past (stamp_at disk.now log_path) log

-- the file that an update leaves which was not cut off counts as the lines that its events call for, within the limit
abbrev pub WholeLogCounts : Type 0
WholeLogCounts = (u : Update) (events : List ChildEvent) (now : Folder) (w : IsLogWhole u events now) → length (log_bytes w.log) ≤ log_limit → IsLogIn now w.log

-- what an update leaves that was not cut off is one of the files that one may leave which was
abbrev pub WholeIsCut : Type 0
WholeIsCut = (u : Update) (events : List ChildEvent) (now : Folder) → IsRunSoFar u events → IsLogWhole u events now → IsLogCut u events now

-- a log that has no torn tail and is neither long nor too large is only appended to
abbrev pub WholeLogIsAppendedTo : Type 0
WholeLogIsAppendedTo = (u : Update) (events : List ChildEvent) (now : Folder) (bytes : List ℕ) (log : List LogLine) → log_file u.build.folder ≡ Some bytes → length bytes ≤ log_limit → IsReading bytes log (length bytes) → (IsLong log → ⊥) → IsLogCut u events now
    → (more : List ℕ) × (log_file now ≡ Some (bytes ++ more))

-- a log that may be left stays so as a step ends that is open, whatever it left
abbrev pub CutLogThroughEnd : Type 0
CutLogThroughEnd = (u : Update) (events : List ChildEvent) (now : Folder) (i : ℕ) (well : Bool) → IsOpen events i → IsLogCut u events now → IsLogCut u (events ++ Done i well ∷ []) now

-- a log that may be left stays so as steps that run or failed change their outputs, where its file stays as it is
abbrev pub CutLogThroughChange : Type 0
CutLogThroughChange = (u : Update) (events : List ChildEvent) (before after : Disk) → Apart u.build.steps u.build.roots → IsAllowedChange u events before after → log_file after.now ≡ log_file before.now → IsLogCut u events before.now → IsLogCut u events after.now

-- wherever an update was cut off its log is true, where the log at entry was
abbrev pub CutLogIsTrue : Type 0
CutLogIsTrue = (u : Update) (events : List ChildEvent) (disk : Disk) → Apart u.build.steps u.build.roots → IsSound u events disk → IsTrueFile (making u) disk.past (held_bytes (log_file u.build.folder)) → IsLogCut u events disk.now
    → IsTrueFile (making u) disk.past (held_bytes (log_file disk.now))

-- Wherever an update was cut off, its log's last lines are on what was done in a run so far that holds each of its starts. But
-- before any event it may have lost records of earlier updates, where it was being replaced.
abbrev pub CutLogIsNoted : Type 0
CutLogIsNoted = (u : Update) (events : List ChildEvent) (now : Folder) (log : List LogLine) → Apart u.build.steps u.build.roots → NoneDoneOlder u events now → IsLogIn u.build.folder u.log → IsLogCut u events now → length (held_bytes (log_file now)) ≤ log_limit → IsLogIn now log
    → (events ≡ []) ⊎ ((b : IsBegun u events) × IsNoted u b.front now log)

-- What a finished step made is kept, wherever an update was cut off. Of a step that was done well before the last start the log
-- has a record that agrees with the files, judged as the next update judges it before any event.
abbrev pub FinishedIsKept : Type 0
FinishedIsKept = (u : Update) (events before after : List ChildEvent) (now : Folder) (log : List LogLine) (quit : Bool) (jobs k i : ℕ) (step : Step) (members : List (List ℕ × Value)) → Apart u.build.steps u.build.roots
    → NoneDoneOlder u events now → IsLogIn u.build.folder u.log → IsLogCut u events now → length (held_bytes (log_file now)) ≤ log_limit → IsLogIn now log
    → events ≡ before ++ Start k ∷ after → Contains before (Done i true) → step_at u.build.steps i ≡ Some step → step.notfile ≡ false → IsClosure u.build (Clean u.build) step members → IsRecorded (next_update u now log quit jobs) [] step members

-- the run of the next update holds no start of a finished step, unless an always-step or a notfile step reaches it
abbrev pub FinishedIsNotStarted : Type 0
FinishedIsNotStarted = (u : Update) (events before after later : List ChildEvent) (disk : Disk) (log : List LogLine) (quit : Bool) (jobs k i : ℕ) (step : Step) (path : List ℕ) → Apart u.build.steps u.build.roots → IsSound u events disk
    → NoneDoneOlder u events disk.now → IsLogIn u.build.folder u.log → IsLogCut u events disk.now → length (held_bytes (log_file disk.now)) ≤ log_limit → IsLogIn disk.now log
    → events ≡ before ++ Start k ∷ after → Contains before (Done i true) → Makes u.build.steps i step path → (IsMadeEachTime u.build path → ⊥) → IsRunSoFar (next_update u disk.now log quit jobs) later → Contains later (Start i) → ⊥
