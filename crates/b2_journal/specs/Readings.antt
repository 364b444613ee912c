-- What a read tells of the log's file.
use Rattle.std.specs.Prelude.{◌≡◌, ◌⊎◌, ℕ, ◌<◌, ◌≤◌, List, [], length, Option, Some, None, Result, Ok, Err}
use Rattle.b2_host.specs.declared.fault.IoFault.{IoFault}
use Rattle.b2_host.specs.declared.fault.IoFault.TheVariants as faults
use Rattle.b2_host.specs.declared.files.ReadAnswer.{ReadAnswer}
use Rattle.b2_host.specs.declared.files.ReadAnswer.TheVariants as answers
use Rattle.b2_host.specs.Outside.{Outside, Fails}
use Rattle.b2_host.specs.FileCalls.{log_path, after_read}
use Rattle.b2_log.specs.declared.line.LogLine.{LogLine}
use Rattle.b2_log.specs.Readings.{IsReading}
use Rattle.b2_runs.specs.LogFiles.{log_limit}
use Rattle.b2_journal.specs.declared.log_reading.LogState.{LogState}
use Rattle.b2_journal.specs.declared.log_reading.LogState.TheVariants as states

-- the file has these lines and nothing after them
abbrev pub IsWhole : Option (List ℕ) → List LogLine → Type 0
IsWhole file lines = (bytes : List ℕ) × (file ≡ Some bytes) × (length bytes ≤ log_limit) × IsReading bytes lines (length bytes)

-- the file has these lines, and after them bytes that are no whole good line
abbrev pub IsTorn : Option (List ℕ) → List LogLine → Type 0
IsTorn file lines = (bytes : List ℕ) × (good : ℕ) × (file ≡ Some bytes) × (length bytes ≤ log_limit) × IsReading bytes lines good × (good < length bytes)

-- the file has more bytes than a log may have, and counts as one without lines
abbrev pub IsTooLarge : Option (List ℕ) → List LogLine → Type 0
IsTooLarge file lines = (bytes : List ℕ) × (file ≡ Some bytes) × (log_limit < length bytes) × (lines ≡ [])

-- how the log's file stands, and the lines that it counts as
abbrev pub Stands : Option (List ℕ) → LogState → List LogLine → Type 0
Stands file states.Missing lines = (file ≡ None) × (lines ≡ [])
Stands file states.Whole lines = IsWhole file lines
Stands file states.Torn lines = IsTorn file lines
Stands file states.TooLarge lines = IsTooLarge file lines

-- bytes within the limit are read as these lines, and the state tells whether any byte follows them
abbrev pub IsBytesRead : List ℕ → LogState → List LogLine → Type 0
IsBytesRead bytes states.Missing lines = ⊥
IsBytesRead bytes states.Whole lines = IsReading bytes lines (length bytes)
IsBytesRead bytes states.Torn lines = (good : ℕ) × IsReading bytes lines good × (good < length bytes)
IsBytesRead bytes states.TooLarge lines = ⊥

-- what an answer of a read tells of the state of the log's file and of its lines
abbrev pub IsAnswered : ReadAnswer → LogState → List LogLine → Type 0
IsAnswered (answers.Bytes bytes) state lines = IsBytesRead bytes.items state lines
IsAnswered answers.Missing state lines = (state ≡ states.Missing) × (lines ≡ [])
IsAnswered (answers.TooBig size) state lines = (state ≡ states.TooLarge) × (lines ≡ [])

-- one read of the log was noted, and nothing else changed
abbrev pub IsLogRead : Outside → Outside → Type 0
IsLogRead before after = after ≡ after_read log_path before

-- The log's file was read, or the read failed. Where no memory was left, the read may have been noted.
abbrev pub ReadsLog : {T : Type 0} → Outside → Outside → Result T IoFault → Type 0
ReadsLog before after (Ok x) = IsLogRead before after
ReadsLog before after (Err faults.Failed) = Fails before after
ReadsLog before after (Err faults.OutOfMemory) = (after ≡ before) ⊎ IsLogRead before after
