use Rattle.std.specs.Prelude.{◌≡◌, ◌≢◌, ◌↔◌, ◌⊎◌, ℕ, List, [], ◌∷◌, ◌++◌, Some, None, map}
use Rattle.std.specs.List.{Contains, AllZip}
use Rattle.b2_host.specs.Disks.{Folder, Disk, Past, IsConsistent, bytes_at}
use Rattle.b2_host.specs.FileCalls.{stamp_at}
use Rattle.b2_log.specs.declared.line.Record.{Record}
use Rattle.b2_log.specs.declared.line.Digests.{Digests}
use Rattle.b2_log.specs.declared.line.LogLine.{LogLine}
use Rattle.b2_log.specs.declared.line.LogLine.TheVariants as lines
use Rattle.b2_log.specs.declared.line.ScanLine.{ScanLine}
use Rattle.b2_log.specs.declared.subject.Subject.TheVariants as subjects
use Rattle.b2_log.specs.Finding.{path_of, subject_of, find_record, find_scan}
use Rattle.b2_runs.specs.Logs.{Making, IsTrueRecord, IsTrueLine, LogTrue, RecordsTrue, ScansTrue}

-- ---- what is found

-- a record that is found is in the log, and has these outputs
abbrev pub FoundIsThere : Type 0
FoundIsThere = (outs : List (List ℕ)) (log : List LogLine) (r : Record) → find_record outs log ≡ Some r → Contains log (lines.Record r) × (map path_of r.outs ≡ outs)

-- a scan that is found is in the log, of this path and at this stamp
abbrev pub ScanIsThere : Type 0
ScanIsThere = (path : List ℕ) (stamp : ℕ) (log : List LogLine) (s : ScanLine) → find_scan path stamp log ≡ Some s → Contains log (lines.Scan s) × (s.path ≡ path) × (s.stamp ≡ stamp)

-- a record at the end is the last line on its outputs
abbrev pub LastRecord : Type 0
LastRecord = (log : List LogLine) (r : Record) → find_record (map path_of r.outs) (log ++ lines.Record r ∷ []) ≡ Some r

-- so is a drop: after it no record is found
abbrev pub LastDrop : Type 0
LastDrop = (log : List LogLine) (outs : List (List ℕ)) → find_record outs (log ++ lines.Drop outs ∷ []) ≡ None

-- a line says nothing of other outputs; so a scan line says nothing of any
abbrev pub OthersUnsaid : Type 0
OthersUnsaid = (outs : List (List ℕ)) (log : List LogLine) (line : LogLine) → subject_of line ≢ subjects.Outputs outs → find_record outs (log ++ line ∷ []) ≡ find_record outs log

-- a scan line at the end is the last line on its path
abbrev pub LastScan : Type 0
LastScan = (log : List LogLine) (s : ScanLine) → find_scan s.path s.stamp (log ++ lines.Scan s ∷ []) ≡ Some s

-- a line says nothing of other paths; so a record or a drop says nothing of any
abbrev pub OtherScansUnsaid : Type 0
OtherScansUnsaid = (path : List ℕ) (stamp : ℕ) (log : List LogLine) (line : LogLine) → subject_of line ≢ subjects.Scanned path → find_scan path stamp (log ++ line ∷ []) ≡ find_scan path stamp log

-- an append that was torn has left the lines as they were, or the whole line after them: it says nothing of other outputs
abbrev pub OthersUnsaidThoughTorn : Type 0
OthersUnsaidThoughTorn = (outs : List (List ℕ)) (log after : List LogLine) (line : LogLine) → (after ≡ log) ⊎ (after ≡ log ++ line ∷ []) → subject_of line ≢ subjects.Outputs outs → find_record outs after ≡ find_record outs log

-- The digest of a path with a stamp is that of the bytes that stand there, where a file with this stamp does.
abbrev pub TellsDigest : Making → Folder → List ℕ × ℕ → List ℕ → Type 0
TellsDigest m now file digest = (bytes : List ℕ) → stamp_at now file.0 ≡ Some file.1 → bytes_at now file.0 ≡ Some bytes → digest ≡ m.digest bytes

-- the digests that a true record has tell of each output and of each input, in order, that stands with its stamp
abbrev pub DigestsTell : Type 0
DigestsTell = (m : Making) (disk : Disk) (r : Record) (d : Digests) → IsConsistent disk → IsTrueRecord m disk.past r → r.digests ≡ Some d → AllZip (TellsDigest m disk.now) r.outs d.outs × AllZip (TellsDigest m disk.now) r.ins d.ins

-- ---- what keeps a log true

-- a log is true where its records and its scan lines are
abbrev pub TrueByKind : Type 0
TrueByKind = (m : Making) (past : List Past) (log : List LogLine) → LogTrue m past log ↔ (RecordsTrue m past log × ScansTrue m past log)

-- a log without lines is true
abbrev pub EmptyIsTrue : Type 0
EmptyIsTrue = (m : Making) (past : List Past) → LogTrue m past []

-- a true line stays true where more has stood
abbrev pub LineTrueAsPastGrows : Type 0
LineTrueAsPastGrows = (m : Making) (past more : List Past) (line : LogLine) → ((old : Past) → Contains past old → Contains more old) → IsTrueLine m past line → IsTrueLine m more line

-- so does a true log
abbrev pub TrueAsPastGrows : Type 0
TrueAsPastGrows = (m : Making) (past more : List Past) (log : List LogLine) → ((old : Past) → Contains past old → Contains more old) → LogTrue m past log → LogTrue m more log

-- a true log stays true where a true line is appended
abbrev pub TrueWithLine : Type 0
TrueWithLine = (m : Making) (past : List Past) (log : List LogLine) (line : LogLine) → LogTrue m past log → IsTrueLine m past line → LogTrue m past (log ++ line ∷ [])

-- a log whose lines are all among those of a true log is true
abbrev pub TrueWithFewer : Type 0
TrueWithFewer = (m : Making) (past : List Past) (log kept : List LogLine) → ((line : LogLine) → Contains kept line → Contains log line) → LogTrue m past log → LogTrue m past kept

-- true scan lines stay true where more has stood
abbrev pub ScansTrueAsPastGrows : Type 0
ScansTrueAsPastGrows = (m : Making) (past more : List Past) (log : List LogLine) → ((old : Past) → Contains past old → Contains more old) → ScansTrue m past log → ScansTrue m more log

-- true scan lines stay true where lines are left out
abbrev pub ScansTrueWithFewer : Type 0
ScansTrueWithFewer = (m : Making) (past : List Past) (log kept : List LogLine) → ((line : LogLine) → Contains kept line → Contains log line) → ScansTrue m past log → ScansTrue m past kept
