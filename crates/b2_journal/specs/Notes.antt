-- What a note does to the log's file.
use Rattle.std.specs.Prelude.{◌≡◌, ℕ, List, [], ◌∷◌, ◌++◌, Option, Some, Result, Ok, Err}
use Rattle.std.specs.List.{AllByRecursion}
use Rattle.b2_host.specs.declared.fault.IoFault.{IoFault}
use Rattle.b2_host.specs.declared.fault.IoFault.TheVariants as faults
use Rattle.b2_host.specs.Disks.{Folder, Disk}
use Rattle.b2_host.specs.FileCalls.{log_path}
use Rattle.b2_log.specs.declared.line.LogLine.{LogLine}
use Rattle.b2_log.specs.Lines.{spelling, log_bytes}
use Rattle.b2_log.specs.Good.{IsGood}
use Rattle.b2_runs.specs.LogCourses.{log_file, left_file}

-- what a journal holds: the path of the log, and good lines
pub record IsKept (path : List ℕ) (lines : List LogLine) : Type 0 where
  pub at_log : path ≡ log_path
  pub good : AllByRecursion IsGood lines

-- The log's file has these lines, by the file that stood at entry: where none stood and there are no lines, none stands.
abbrev pub HasLines : Option (List ℕ) → Folder → List LogLine → Type 0
HasLines entry folder lines = log_file folder ≡ left_file entry (log_bytes lines)

-- A note of a good line failed: the log's file is as it was, or has a front of the line behind the lines.
pub data IsNoteCut (before after : Folder) (lines : List LogLine) (line : LogLine) : Type 0 where
  untouched : log_file after ≡ log_file before → IsNoteCut before after lines line
  within : (part missing : List ℕ) → IsGood line → spelling line ≡ part ++ missing → log_file after ≡ Some (log_bytes lines ++ part) → IsNoteCut before after lines line

-- what a note of a line comes to where the log's file has these lines, by its result
abbrev pub Notes : {T : Type 0} → LogLine → List LogLine → Disk → Disk → Result T IoFault → Type 0
Notes line lines before after (Ok x) = (entry : Option (List ℕ)) → HasLines entry before.now lines → HasLines entry after.now (lines ++ line ∷ [])
Notes line lines before after (Err faults.Failed) = (entry : Option (List ℕ)) → HasLines entry before.now lines → IsNoteCut before.now after.now lines line
Notes line lines before after (Err faults.OutOfMemory) = after ≡ before
