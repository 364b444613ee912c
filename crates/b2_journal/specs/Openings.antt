-- What opening the log does to its file.
use Rattle.std.specs.Prelude.{◌≡◌, ◌≢◌, ◌⊎◌, ⊤, ℕ, List, ◌++◌, true, is_some, Option, Some, None, Result, Ok, Err}
use Rattle.std.specs.List.{AllByRecursion}
use Rattle.std.specs.declared.vec.Vec.{Vec}
use Rattle.std.specs.declared.alloc.Global.{Global}
use Rattle.b2_host.specs.declared.fault.IoFault.{IoFault}
use Rattle.b2_host.specs.declared.fault.IoFault.TheVariants as faults
use Rattle.b2_host.specs.Disks.{Folder, Disk}
use Rattle.b2_host.specs.Outside.{Outside}
use Rattle.b2_host.specs.FileCalls.{log_path, after_read, Replaces}
use Rattle.b2_log.specs.declared.line.LogLine.{LogLine}
use Rattle.b2_log.specs.Lines.{log_bytes}
use Rattle.b2_log.specs.Good.{IsGood}
use Rattle.b2_log.specs.Finding.{kept}
use Rattle.b2_journal.specs.declared.opening.Beginning.{Beginning}
use Rattle.b2_runs.specs.LogCourses.{Opening, FirstLines, held_bytes, log_file, left_file}

-- ---- what is promised

-- The log is open: it begins with these lines, and its file has them. Where it had them before, nothing was written.
pub record IsOpened (opening : Opening) (before after : Disk) (first : List LogLine) : Type 0 where
  pub begins : FirstLines opening (held_bytes (log_file before.now)) first
  pub file : log_file after.now ≡ left_file (log_file before.now) (log_bytes first)
  pub stays : log_bytes first ≡ held_bytes (log_file before.now) → after ≡ before

-- Opening failed: the log's file is as it was, or it was being replaced by other bytes, those of the lines to begin with.
pub data IsOpeningCut (opening : Opening) (before after : Folder) : Type 0 where
  untouched : log_file after ≡ log_file before → IsOpeningCut opening before after
  replacing : (first : List LogLine) (part missing : List ℕ) → FirstLines opening (held_bytes (log_file before)) first → log_bytes first ≢ held_bytes (log_file before)
      → log_bytes first ≡ part ++ missing → log_file after ≡ Some part → IsOpeningCut opening before after

-- what opening comes to, by its result
abbrev pub Opens : Opening → Disk → Disk → Result (List LogLine) IoFault → Type 0
Opens opening before after (Ok first) = IsOpened opening before after first
Opens opening before after (Err faults.Failed) = IsOpeningCut opening before.now after.now
Opens opening before after (Err faults.OutOfMemory) = after ≡ before

-- the host failed only where a call may
abbrev pub MayFailTold : {T : Type 0} → Outside → Result T IoFault → Type 0
MayFailTold before (Ok x) = ⊤
MayFailTold before (Err faults.Failed) = before.risks.may_fail ≡ true
MayFailTold before (Err faults.OutOfMemory) = ⊤

-- the log was read once, and no other file; or none was, where opening stopped before
abbrev pub ReadsOnlyLog : {T : Type 0} → Outside → Outside → Result T IoFault → Type 0
ReadsOnlyLog before after (Ok x) = after.reads ≡ (after_read log_path before).reads
ReadsOnlyLog before after (Err e) = (after.reads ≡ before.reads) ⊎ (after.reads ≡ (after_read log_path before).reads)

-- ---- what is to be done

-- The file is to stay: it has the lines to begin with.
pub record IsToStay (opening : Opening) (file : Option (List ℕ)) (first : List LogLine) : Type 0 where
  pub begins : FirstLines opening (held_bytes file) first
  pub has : file ≡ left_file file (log_bytes first)

-- The file, which stands, is to be replaced by these bytes: those of the lines to begin with, which are not its own.
pub record IsToReplace (opening : Opening) (file : Option (List ℕ)) (first : List LogLine) (bytes : List ℕ) : Type 0 where
  pub begins : FirstLines opening (held_bytes file) first
  pub bytes_are : bytes ≡ log_bytes first
  pub others : log_bytes first ≢ held_bytes file
  pub stands : is_some file ≡ true

-- the kept lines of a log are begun with, and their bytes are to stand in the file's place
pub record IsKeptBeginning (lines : List LogLine) (beginning : Beginning) : Type 0 where
  pub lines_are : beginning.log.lines ≡ kept lines
  pub bytes : Vec ℕ Global
  pub some : beginning.bytes ≡ Some bytes
  pub bytes_are : bytes.items ≡ log_bytes (kept lines)
  pub good : AllByRecursion IsGood (kept lines)

-- what is to be done with the file, by the bytes that are to stand in its place
abbrev pub Begins : Opening → Option (List ℕ) → List LogLine → Option (Vec ℕ Global) → Type 0
Begins opening file first None = IsToStay opening file first
Begins opening file first (Some bytes) = IsToReplace opening file first bytes.items

-- the bytes take the place of the log's file, where there are any
abbrev pub PutsBack : {T : Type 0} → Option (Vec ℕ Global) → Outside → Outside → Result T IoFault → Type 0
PutsBack None before after (Ok x) = after ≡ before
PutsBack None before after (Err e) = ⊥
PutsBack (Some bytes) before after result = Replaces log_path bytes.items before after result
