use Rattle.std.specs.Prelude.{ℕ, List, [], ◌∷◌, ◌++◌, Option, Some, None, codes, if◌then◌else◌}
use Rattle.std.specs.Str.{bytes_eq}
use Rattle.b2_host.specs.declared.children.ChildEvent.TheVariants.{Start}
use Rattle.b2_host.specs.Disks.{Folder, Past, IsOneEach}
use Rattle.b2_host.specs.Outside.{Read}
use Rattle.b2_log.specs.declared.line.Record.{Record}
use Rattle.b2_log.specs.declared.line.ScanLine.{ScanLine}
use Rattle.b2_log.specs.declared.line.LogLine.{LogLine}
use Rattle.b2_log.specs.declared.line.LogLine.TheVariants as lines
use Rattle.b2_runs.specs.FileReads.{IsToScan, IsTooBig, IsLogThen, ReadsOnce, ReadsLeaveLines}
use Rattle.b2_runs.specs.LogCourses.{IsLogAfter, AllScanned}
use Rattle.b2_run_examples.specs.Overlap.{x_path, b_path}
use Rattle.b2_run_examples.specs.Headers.{header, header_update, b_made, b_scan}

-- Scan lines and reads, in the update whose file `b` is made and includes a header.

-- `x` and `b` as they stand when `b` was made
abbrev pub b_stands : Folder
b_stands path = if bytes_eq path x_path then Some (record { stamp = 1; bytes = 7 ∷ [] }) else (if bytes_eq path b_path then Some (record { stamp = 2; bytes = 7 ∷ [] }) else None)

abbrev pub b_record : Record
b_record = record { text = codes "cat"; outs = (b_path, 2) ∷ []; ins = (x_path, 1) ∷ []; digests = None }

-- a scan line of an older `b`
abbrev pub b_older : ScanLine
b_older = record { path = b_path; stamp = 1; includes = header ∷ [] }

-- the log with the record alone, and with the scan line
abbrev pub recorded : List LogLine
recorded = lines.Record b_record ∷ []

abbrev pub scanned : List LogLine
scanned = lines.Record b_record ∷ lines.Scan b_scan ∷ []

-- a read of a path at a stamp, while the log's file had this one, where it stood
abbrev pub read_of : List ℕ → ℕ → Option ℕ → Read
read_of path stamp log = record { path = path; stamp = Some stamp; log = log }

pub record ScansHold : Type 0 where
  -- before `b` is made no file is to have a scan line, and none is too big, whatever stands
  pub none_yet : (path bytes : List ℕ) → ¬ IsToScan header_update [] path bytes
  pub none_too_big : (now : Folder) (path : List ℕ) (size : ℕ) → ¬ IsTooBig header_update [] now path size
  -- then `b` is, and gets it
  pub to_scan : IsToScan header_update b_made b_path (7 ∷ [])
  pub course : IsLogAfter header_update b_stands [] b_made scanned
  pub all : AllScanned header_update b_made b_stands scanned
  -- without its line, or with that of an older file, not all are scanned
  pub not_without : ¬ AllScanned header_update b_made b_stands recorded
  pub not_older : ¬ AllScanned header_update b_made b_stands (lines.Record b_record ∷ lines.Scan b_older ∷ [])
  -- no step may start before that line is in the log
  pub line_first : ¬ IsLogAfter header_update b_stands [] (b_made ++ Start 3 ∷ []) recorded
  -- `b` is read where no log stood, and once its line stands in the log it is not read again; `x`, which is not scanned, is never
  pub read : (past : List Past) → ReadsOnce header_update b_made past (read_of b_path 2 None ∷ [])
  pub not_again : (past : List Past) (stamp : ℕ) → IsOneEach past → IsLogThen past (Some stamp) scanned → ¬ ReadsOnce header_update b_made past (read_of b_path 2 (Some stamp) ∷ [])
  pub not_x : (past : List Past) → ¬ ReadsOnce header_update b_made past (read_of x_path 1 None ∷ [])
  -- where another file is read after `b`, the line of `b` stands in the log by then; it may not be lacking
  pub line_left : (past : List Past) (stamp : ℕ) → IsLogThen past (Some stamp) scanned → ReadsLeaveLines header_update past (read_of b_path 2 None ∷ read_of x_path 1 (Some stamp) ∷ [])
  pub line_owed : ¬ ReadsLeaveLines header_update [] (read_of b_path 2 None ∷ read_of x_path 1 None ∷ [])
