use Rattle.std.specs.Prelude.{◌≡◌, ℕ, ◌<◌, ◌≤◌, List, [], length, Option, Some, None}
use Rattle.b2_host.specs.declared.files.ReadAnswer.{ReadAnswer}
use Rattle.b2_host.specs.declared.files.ReadAnswer.TheVariants as answers
use Rattle.b2_host.specs.Disks.{Folder, Disk, Past, bytes_at}
use Rattle.b2_host.specs.FileCalls.{log_path}
use Rattle.b2_log.specs.declared.line.Record.{Record}
use Rattle.b2_log.specs.declared.line.LogLine.{LogLine}
use Rattle.b2_log.specs.Finding.{find_record}
use Rattle.b2_log.specs.Readings.{IsReading}
use Rattle.b2_runs.specs.Logs.{Making, LogTrue}

-- how many bytes a log has at most
abbrev pub log_limit : ℕ
log_limit = 268435456

-- The lines that a file of these bytes counts as: those that its bytes are read as, and none where it is above the limit.
pub data IsLogOf (bytes : List ℕ) (log : List LogLine) : Type 0 where
  is_read : (good : ℕ) → length bytes ≤ log_limit → IsReading bytes log good → IsLogOf bytes log
  is_large : log_limit < length bytes → log ≡ [] → IsLogOf bytes log

-- a file of these bytes tells this of the outputs: it is what is found in the lines that the file counts as
abbrev pub FileTells : List ℕ → List (List ℕ) → Option Record → Type 0
FileTells bytes outs told = (log : List LogLine) × IsLogOf bytes log × (find_record outs log ≡ told)

-- a file of these bytes is true: the lines that it counts as are
abbrev pub IsTrueFile : Making → List Past → List ℕ → Type 0
IsTrueFile m past bytes = (log : List LogLine) → IsLogOf bytes log → LogTrue m past log

-- the lines of a log whose file has these bytes: those that it counts as, and none where no file stands
abbrev pub IsLogHeld : Option (List ℕ) → List LogLine → Type 0
IsLogHeld None log = log ≡ []
IsLogHeld (Some bytes) log = IsLogOf bytes log

-- the lines of a log of which a read within the limit told this: those that its bytes are read as, and none where no file
-- stands or a larger one does
abbrev pub IsLogTold : ReadAnswer → List LogLine → Type 0
IsLogTold (answers.Bytes bytes) log = (good : ℕ) × IsReading bytes.items log good
IsLogTold answers.Missing log = log ≡ []
IsLogTold (answers.TooBig size) log = log ≡ []

-- the lines of the log in a folder
abbrev pub IsLogIn : Folder → List LogLine → Type 0
IsLogIn folder log = IsLogHeld (bytes_at folder log_path) log

-- The log on a disk is true. That what stood has one content for a path and a stamp is not said again here: each host that
-- tells its files promises it of every disk (`IsConsistent`), and `IsSound` has it of the disk of an update.
abbrev pub IsTrueOn : Making → Disk → Type 0
IsTrueOn m disk = (log : List LogLine) → IsLogIn disk.now log → LogTrue m disk.past log
