use Rattle.std.specs.Prelude.{◌≡◌, ◌≢◌, ◌↔◌, ◌⊎◌, ℕ, ◌≤◌, List, [], ◌∷◌, ◌++◌, length, Option, Some, None, map}
use Rattle.std.specs.List.{Contains}
use Rattle.b2_host.specs.declared.files.ReadAnswer.{ReadAnswer}
use Rattle.b2_host.specs.declared.children.ChildEvent.{ChildEvent}
use Rattle.b2_host.specs.Disks.{Folder, Disk, Past, bytes_at, ReadTold, without}
use Rattle.b2_host.specs.ChildProcesses.{Child, ChangesOnlyOutputs}
use Rattle.b2_plan.specs.declared.step.Step.{Step}
use Rattle.b2_plan.specs.Plans.{Apart, Makes, step_at}
use Rattle.b2_host.specs.FileCalls.{log_path}
use Rattle.b2_plan.specs.Sources.{Build}
use Rattle.b2_plan.specs.Closures.{Value, IsClosure}
use Rattle.b2_plan.specs.Cleans.{Clean}
use Rattle.b2_log.specs.declared.line.Record.{Record}
use Rattle.b2_log.specs.declared.line.LogLine.{LogLine}
use Rattle.b2_log.specs.declared.line.LogLine.TheVariants as lines
use Rattle.b2_log.specs.Lines.{spelling, log_bytes}
use Rattle.b2_log.specs.Good.{IsDigest, IsGood, IsProper}
use Rattle.b2_log.specs.Readings.{IsReading}
use Rattle.b2_log.specs.declared.subject.Subject.TheVariants as subjects
use Rattle.b2_log.specs.Finding.{path_of, subject_of, find_record, kept}
use Rattle.b2_runs.specs.Logs.{Making, IsTrueRecord, IsTrueLine, LogTrue}
use Rattle.b2_runs.specs.LogFiles.{log_limit, IsLogOf, FileTells, IsTrueFile, IsLogTold, IsLogIn, IsTrueOn}
use Rattle.b2_runs.specs.Staleness.{Update, making}
use Rattle.b2_runs.specs.Records.{IsRecordOf}
use Rattle.b2_runs.specs.Soundness.{AreAtWork}

-- a file counts as one list of lines
abbrev pub FileIsOneLog : Type 0
FileIsOneLog = (bytes : List ℕ) (log other : List LogLine) → IsLogOf bytes log → IsLogOf bytes other → log ≡ other

-- there is no file that counts as no list of lines
abbrev pub FileIsSomeLog : Type 0
FileIsSomeLog = (bytes : List ℕ) → ¬ ((log : List LogLine) → ¬ IsLogOf bytes log)

-- so it tells of outputs what is found in the lines that were read, and nothing else
abbrev pub ReadFileTells : Type 0
ReadFileTells = (bytes : List ℕ) (log : List LogLine) (outs : List (List ℕ)) (told : Option Record) → IsLogOf bytes log → FileTells bytes outs told ↔ (find_record outs log ≡ told)

-- what a true file tells is a true record, of these very outputs
abbrev pub TrueFileTells : Type 0
TrueFileTells = (m : Making) (past : List Past) (bytes : List ℕ) (outs : List (List ℕ)) (r : Record) → IsTrueFile m past bytes → FileTells bytes outs (Some r) → IsTrueRecord m past r × (map path_of r.outs ≡ outs)

-- the file without bytes is true
abbrev pub EmptyFileIsTrue : Type 0
EmptyFileIsTrue = (m : Making) (past : List Past) → IsTrueFile m past []

-- a true file stays true where more has stood
abbrev pub FileTrueAsPastGrows : Type 0
FileTrueAsPastGrows = (m : Making) (past more : List Past) (bytes : List ℕ) → ((old : Past) → Contains past old → Contains more old) → IsTrueFile m past bytes → IsTrueFile m more bytes

-- any first bytes of a file whose lines are true are a true file
abbrev pub TrueFront : Type 0
TrueFront = (m : Making) (past : List Past) (front rest : List ℕ) (log : List LogLine) (good : ℕ) → IsReading (front ++ rest) log good → LogTrue m past log → IsTrueFile m past front

-- a true file all of whose bytes are good stays true where the spelling of a true line is appended
abbrev pub TrueWithSpelling : Type 0
TrueWithSpelling = (m : Making) (past : List Past) (bytes : List ℕ) (log : List LogLine) (line : LogLine) → IsReading bytes log (length bytes) → IsTrueFile m past bytes → IsGood line → IsTrueLine m past line → IsTrueFile m past (bytes ++ spelling line)

-- it stays true where only the first part of the spelling is appended
abbrev pub TrueWithTornSpelling : Type 0
TrueWithTornSpelling = (m : Making) (past : List Past) (bytes : List ℕ) (log : List LogLine) (line : LogLine) (part missing : List ℕ) → IsReading bytes log (length bytes) → IsTrueFile m past bytes → IsGood line → IsTrueLine m past line
    → spelling line ≡ part ++ missing → IsTrueFile m past (bytes ++ part)

-- the kept lines of a true file are a true file, and so is any first part of their spelling
abbrev pub TrueOfKept : Type 0
TrueOfKept = (m : Making) (past : List Past) (bytes : List ℕ) (log : List LogLine) (good : ℕ) (part missing : List ℕ) → IsReading bytes log good → LogTrue m past log → log_bytes (kept log) ≡ part ++ missing → IsTrueFile m past part

-- where all bytes of a file are good and the spelling of a good line is appended, within the limit, it counts as one line more
abbrev pub AppendAdds : Type 0
AppendAdds = (bytes : List ℕ) (log : List LogLine) (line : LogLine) → IsReading bytes log (length bytes) → IsGood line → length (bytes ++ spelling line) ≤ log_limit → IsLogOf (bytes ++ spelling line) (log ++ line ∷ [])

-- where only the first part of the spelling was appended and the file is within the limit, it counts as the lines before and
-- the whole line where no byte is missing, and as the lines before alone where one is
abbrev pub TornAppendLeaves : Type 0
TornAppendLeaves = (bytes : List ℕ) (log after : List LogLine) (line : LogLine) (part missing : List ℕ) → IsReading bytes log (length bytes) → IsGood line → spelling line ≡ part ++ missing → length (bytes ++ part) ≤ log_limit
    → IsLogOf (bytes ++ part) after → ((missing ≡ []) × (after ≡ log ++ line ∷ [])) ⊎ ((missing ≢ []) × (after ≡ log))

-- so it tells of other outputs what it told before
abbrev pub TornTellsOthers : Type 0
TornTellsOthers = (bytes : List ℕ) (log : List LogLine) (line : LogLine) (part missing : List ℕ) (outs : List (List ℕ)) (told : Option Record) → IsReading bytes log (length bytes) → IsGood line → spelling line ≡ part ++ missing → length (bytes ++ part) ≤ log_limit
    → subject_of line ≢ subjects.Outputs outs → FileTells (bytes ++ part) outs told ↔ FileTells bytes outs told

-- the kept lines of a file tell of all outputs what the file told
abbrev pub KeptTellsSame : Type 0
KeptTellsSame = (bytes : List ℕ) (log : List LogLine) (outs : List (List ℕ)) (told : Option Record) → IsLogOf bytes log → FileTells (log_bytes (kept log)) outs told ↔ FileTells bytes outs told

-- the record that an update appends is one whose line can be read back, where digests have their form, and so is a line that
-- drops a record
abbrev pub RecordIsProper : Type 0
RecordIsProper = (u : Update) (now : Folder) (i : ℕ) (step : Step) (members : List (List ℕ × Value)) (r : Record) → Apart u.build.steps u.build.roots → step_at u.build.steps i ≡ Some step → IsClosure u.build (Clean u.build) step members
    → ((bytes : List ℕ) → IsDigest (u.digest bytes)) → IsRecordOf u now step members r → IsProper (lines.Record r)

abbrev pub DropIsProper : Type 0
DropIsProper = (b : Build) (i : ℕ) (step : Step) → Apart b.steps b.roots → step_at b.steps i ≡ Some step → IsProper (lines.Drop step.outs)

-- a read of the log within the limit tells its lines
abbrev pub ReadTellsLog : Type 0
ReadTellsLog = (folder : Folder) (answer : ReadAnswer) (log : List LogLine) → ReadTold log_path log_limit answer folder → IsLogIn folder log ↔ IsLogTold answer log

-- the log on a disk is true where the file that stands there is
abbrev pub TrueByFile : Type 0
TrueByFile = (m : Making) (disk : Disk) (bytes : List ℕ) → bytes_at disk.now log_path ≡ Some bytes → IsTrueOn m disk ↔ IsTrueFile m disk.past bytes

-- the log on a disk is true where no file of it stands
abbrev pub TrueWhereMissing : Type 0
TrueWhereMissing = (m : Making) (disk : Disk) → bytes_at disk.now log_path ≡ None → IsTrueOn m disk

-- it stays true where its file stays as it is and no file that stood is forgotten
abbrev pub TrueWhereStill : Type 0
TrueWhereStill = (m : Making) (before after : Disk) → bytes_at after.now log_path ≡ bytes_at before.now log_path → ((old : Past) → Contains before.past old → Contains after.past old) → IsTrueOn m before → IsTrueOn m after

-- so it does while children work, for none of them writes to the log
abbrev pub TrueThroughWork : Type 0
TrueThroughWork = (u : Update) (events : List ChildEvent) (running : List Child) (before after : Disk) → Apart u.build.steps u.build.roots → AreAtWork u events running → ChangesOnlyOutputs running before after → IsTrueOn (making u) before → IsTrueOn (making u) after

-- the log on a disk stays true where an output is removed
abbrev pub TrueThroughRemoval : Type 0
TrueThroughRemoval = (b : Build) (m : Making) (disk : Disk) (i : ℕ) (step : Step) (path : List ℕ) → Apart b.steps b.roots → Makes b.steps i step path → IsTrueOn m disk → IsTrueOn m (without path disk)
