use Rattle.std.specs.Prelude.{◌≡◌, ◌≢◌, ℕ, ◌+◌, ◌*◌, ◌<◌, ◌≤◌, true, false, List, [], ◌∷◌, ◌++◌, length, Option, Some, None}
use Rattle.std.specs.List.{Contains, AllByRecursion}
use Rattle.b2_host.specs.declared.children.ChildEvent.{ChildEvent}
use Rattle.b2_host.specs.declared.children.ChildEvent.TheVariants.{Start, Done}
use Rattle.b2_host.specs.Disks.{File, Folder, bytes_at}
use Rattle.b2_plan.specs.declared.step.Step.{Step}
use Rattle.b2_plan.specs.Plans.{step_at}
use Rattle.b2_host.specs.FileCalls.{log_path}
use Rattle.b2_plan.specs.Closures.{Value, IsClosure}
use Rattle.b2_plan.specs.Cleans.{Clean}
use Rattle.b2_log.specs.declared.line.Record.{Record}
use Rattle.b2_log.specs.declared.line.Digests.{Digests}
use Rattle.b2_log.specs.declared.line.ScanLine.{ScanLine}
use Rattle.b2_log.specs.declared.line.LogLine.{LogLine}
use Rattle.b2_log.specs.declared.line.LogLine.TheVariants as lines
use Rattle.b2_log.specs.Lines.{spelling, log_bytes}
use Rattle.b2_log.specs.Good.{IsGood}
use Rattle.b2_log.specs.Readings.{IsReading}
use Rattle.b2_log.specs.Finding.{find_record, find_scan, kept}
use Rattle.b2_runs.specs.LogFiles.{log_limit}
use Rattle.b2_runs.specs.Staleness.{Update, IsFresh}
use Rattle.b2_runs.specs.Records.{IsRecordOf, IsScanOf}
use Rattle.b2_runs.specs.Runs.{on_settled, Needed, IsRunSoFar, OpenEnds}
use Rattle.b2_runs.specs.FileReads.{IsToScan}
use Rattle.b2_runs.specs.Afterwards.{IsNotedStep}

-- The log's file over a whole update.

-- a log is long: it has more lines than twice the kept ones plus 100
abbrev pub IsLong : List LogLine → Type 0
IsLong log = 2 * length (kept log) + 100 < length log

-- how a log is opened: to update, or only to cut it, which leaves a long one as it is
pub data Opening : Type 0 where
  to_update : Opening
  to_cut : Opening

-- a log is to be shortened: it is long, and it is opened to update
abbrev pub IsToShorten : Opening → List LogLine → Type 0
IsToShorten to_update log = IsLong log
IsToShorten to_cut log = ⊥

-- The lines that a log is opened with, by the bytes of its file. They are the kept ones where the file has a torn tail or the log
-- is to be shortened. There are none where the file is above the limit. Else they are all of them.
pub data FirstLines (opening : Opening) (bytes : List ℕ) : List LogLine → Type 0 where
  as_it_is : (log : List LogLine) → length bytes ≤ log_limit → IsReading bytes log (length bytes) → (IsToShorten opening log → ⊥) → FirstLines opening bytes log
  torn : (log : List LogLine) (good : ℕ) → length bytes ≤ log_limit → IsReading bytes log good → good < length bytes → FirstLines opening bytes (kept log)
  long : (log : List LogLine) (good : ℕ) → length bytes ≤ log_limit → IsReading bytes log good → IsToShorten opening log → FirstLines opening bytes (kept log)
  large : log_limit < length bytes → FirstLines opening bytes []

-- the bytes of a file, and none where none stands
abbrev pub held_bytes : Option (List ℕ) → List ℕ
held_bytes None = []
held_bytes (Some bytes) = bytes

-- the bytes of the log's file in a folder, where it stands
abbrev pub log_file : Folder → Option (List ℕ)
log_file folder = bytes_at folder log_path

-- the lines that an update begins with, by the log's file at entry
abbrev pub BeginsWith : Update → List LogLine → Type 0
BeginsWith u first = FirstLines to_update (held_bytes (log_file u.build.folder)) first

-- The log's last line for these outputs is a record with digests and with the stamps of this record.
pub record HasDigestsAlready (outs : List (List ℕ)) (log : List LogLine) (r : Record) : Type 0 where
  pub last : Record
  pub found : find_record outs log ≡ Some last
  pub digests : Digests
  pub has : last.digests ≡ Some digests
  pub outs_same : last.outs ≡ r.outs
  pub ins_same : last.ins ≡ r.ins

-- A step with this closure is to have a record with digests though it was not started: judging is by digests, and it is needed
-- and fresh.
pub record IsToMigrate (u : Update) (events : List ChildEvent) (step : Step) (members : List (List ℕ × Value)) : Type 0 where
  pub by_digest : u.by_digest ≡ true
  pub number : ℕ
  pub at : step_at u.build.steps number ≡ Some step
  pub needed : Needed u events number
  pub not_started : Contains events (Start number) → ⊥
  pub closure : IsClosure u.build (on_settled u events) step members
  pub is_fresh : IsFresh u events step members

-- Where judging is by digests, the log has a record with digests of each needed step that is fresh and was not started. Its
-- stamps are those of the files as they stand.
abbrev pub AllMigrated : Update → List ChildEvent → Folder → List LogLine → Type 0
AllMigrated u events now log = (step : Step) (members : List (List ℕ × Value)) → IsToMigrate u events step members → IsNotedStep u now log step members

-- The log's last scan line of the file has the stamp of the file as it stands, and its includes.
pub record IsScannedFile (u : Update) (now : List ℕ → Option File) (log : List LogLine) (path bytes : List ℕ) : Type 0 where
  pub line : ScanLine
  pub is_scan : IsScanOf u now path bytes line
  pub found : find_scan path line.stamp log ≡ Some line

-- the log has the scan line of each file that is to have one
abbrev pub AllScanned : Update → List ChildEvent → Folder → List LogLine → Type 0
AllScanned u events now log = (path bytes : List ℕ) → IsToScan u events path bytes → IsScannedFile u now log path bytes

-- The log lacks no line that is called for after these events, but for those of the events themselves: it has each scan line and
-- each record with digests.
pub record LacksNoLine (u : Update) (events : List ChildEvent) (now : Folder) (log : List LogLine) : Type 0 where
  pub scanned : AllScanned u events now log
  pub migrated : AllMigrated u events now log

-- The lines of the log after events, from those that the update began with, by the files as they stand. A step that is done well
-- and owes files gets its record. One that is done badly gets a drop where the log has a record for its outputs. Between them stand
-- scan lines of files that are to have one, where the log has none at this stamp. There stand records with digests too, of steps
-- that are to have one, where the log's last line is no such record with these stamps. Before an event comes, no line is lacking
-- that was called for.
pub data IsLogAfter (u : Update) (now : Folder) (first : List LogLine) : List ChildEvent → List LogLine → Type 0 where
  begins : IsLogAfter u now first [] first
  starts : (events : List ChildEvent) (log : List LogLine) (i : ℕ) → IsLogAfter u now first events log → LacksNoLine u events now log → IsLogAfter u now first (events ++ Start i ∷ []) log
  records : (events : List ChildEvent) (log : List LogLine) (i : ℕ) (step : Step) (members : List (List ℕ × Value)) (r : Record) → IsLogAfter u now first events log → LacksNoLine u events now log → step_at u.build.steps i ≡ Some step → step.notfile ≡ false
      → IsClosure u.build (Clean u.build) step members → IsRecordOf u now step members r → IsLogAfter u now first (events ++ Done i true ∷ []) (log ++ lines.Record r ∷ [])
  owes_none : (events : List ChildEvent) (log : List LogLine) (i : ℕ) (step : Step) → IsLogAfter u now first events log → LacksNoLine u events now log → step_at u.build.steps i ≡ Some step → step.notfile ≡ true → IsLogAfter u now first (events ++ Done i true ∷ []) log
  drops : (events : List ChildEvent) (log : List LogLine) (i : ℕ) (step : Step) (r : Record) → IsLogAfter u now first events log → LacksNoLine u events now log → step_at u.build.steps i ≡ Some step → find_record step.outs log ≡ Some r
      → IsLogAfter u now first (events ++ Done i false ∷ []) (log ++ lines.Drop step.outs ∷ [])
  has_none : (events : List ChildEvent) (log : List LogLine) (i : ℕ) (step : Step) → IsLogAfter u now first events log → LacksNoLine u events now log → step_at u.build.steps i ≡ Some step → find_record step.outs log ≡ None → IsLogAfter u now first (events ++ Done i false ∷ []) log
  scans : (events : List ChildEvent) (log : List LogLine) (path bytes : List ℕ) (s : ScanLine) → IsLogAfter u now first events log → IsToScan u events path bytes → IsScanOf u now path bytes s → find_scan path s.stamp log ≡ None
      → IsLogAfter u now first events (log ++ lines.Scan s ∷ [])
  migrates : (events : List ChildEvent) (log : List LogLine) (step : Step) (members : List (List ℕ × Value)) (r : Record) → IsLogAfter u now first events log → IsToMigrate u events step members → IsRecordOf u now step members r → (HasDigestsAlready step.outs log r → ⊥)
      → IsLogAfter u now first events (log ++ lines.Record r ∷ [])

-- the file that is left where it is to have these bytes: where none stood and there are none, none stands
abbrev pub left_file : Option (List ℕ) → List ℕ → Option (List ℕ)
left_file (Some old) bytes = Some bytes
left_file None [] = None
left_file None (byte ∷ more) = Some (byte ∷ more)

-- The log's file after an update that was not cut off: the lines that the update began with and those that its events call for,
-- with none lacking. Each of them is good, so that the file is read as these lines.
pub record IsLogWhole (u : Update) (events : List ChildEvent) (now : List ℕ → Option File) : Type 0 where
  pub first : List LogLine
  pub begins : BeginsWith u first
  pub log : List LogLine
  pub course : IsLogAfter u now first events log
  pub good : AllByRecursion IsGood log
  pub lacks_none : LacksNoLine u events now log
  pub file : log_file now ≡ left_file (log_file u.build.folder) (log_bytes log)

-- The log's file after an update that was cut off. It was not touched, or it was being replaced by other bytes. Or it has the
-- lines that the events of a run so far call for, up to where no step starts any more, and perhaps a part of one line more. Each
-- of these lines is good.
pub data IsLogCut (u : Update) (events : List ChildEvent) (now : Folder) : Type 0 where
  untouched : events ≡ [] → log_file now ≡ log_file u.build.folder → IsLogCut u events now
  replacing : (first : List LogLine) (part missing : List ℕ) → events ≡ [] → BeginsWith u first → log_bytes first ≢ held_bytes (log_file u.build.folder)
      → log_bytes first ≡ part ++ missing → log_file now ≡ Some part → IsLogCut u events now
  between : (first log : List LogLine) (front rest : List ChildEvent) → events ≡ front ++ rest → IsRunSoFar u front → OpenEnds front rest → BeginsWith u first → IsLogAfter u now first front log → AllByRecursion IsGood log
      → log_file now ≡ left_file (log_file u.build.folder) (log_bytes log) → IsLogCut u events now
  within : (first log : List LogLine) (line : LogLine) (front more rest : List ChildEvent) (part missing : List ℕ) → events ≡ front ++ more ++ rest → IsRunSoFar u (front ++ more) → OpenEnds front (more ++ rest) → BeginsWith u first
      → IsLogAfter u now first front log → IsLogAfter u now first (front ++ more) (log ++ line ∷ []) → AllByRecursion IsGood (log ++ line ∷ []) → spelling line ≡ part ++ missing
      → log_file now ≡ Some (log_bytes log ++ part) → IsLogCut u events now
