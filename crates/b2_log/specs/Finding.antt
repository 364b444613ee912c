-- What a log tells of a subject: of the outputs of a step, or of a path that was scanned.
use Rattle.std.specs.Prelude.{ℕ, ◌==◌, Bool, false, true, not, ◌&&◌, List, [], ◌∷◌, Option, Some, None, map, reverse, find, option_and_then, if◌then◌else◌}
use Rattle.std.specs.List.{list_any}
use Rattle.std.specs.Cmp.Lexicographic.{pointwise}
use Rattle.std.specs.Str.{bytes_eq}
use Rattle.b2_log.specs.declared.line.Record.{Record}
use Rattle.b2_log.specs.declared.line.ScanLine.{ScanLine}
use Rattle.b2_log.specs.declared.line.LogLine.{LogLine}
use Rattle.b2_log.specs.declared.line.LogLine.TheVariants as lines
use Rattle.b2_log.specs.declared.subject.Subject.{Subject}
use Rattle.b2_log.specs.declared.subject.Subject.TheVariants as subjects

-- the path of a path with its stamp
abbrev pub path_of : List ℕ × ℕ → List ℕ
path_of file = file.0

-- the subject of a line: its outputs in its order, or the path that was scanned
abbrev pub subject_of : LogLine → Subject
subject_of (lines.Record r) = subjects.Outputs (map path_of r.outs)
subject_of (lines.Drop outs) = subjects.Outputs outs
subject_of (lines.Scan s) = subjects.Scanned s.path

-- whether two subjects are the same
abbrev pub subject_eq : Subject → Subject → Bool
subject_eq (subjects.Outputs outs) (subjects.Outputs others) = pointwise bytes_eq outs others
subject_eq (subjects.Outputs outs) (subjects.Scanned path) = false
subject_eq (subjects.Scanned path) (subjects.Outputs outs) = false
subject_eq (subjects.Scanned path) (subjects.Scanned other) = bytes_eq path other

-- whether a line is about exactly this subject
abbrev pub is_about : Subject → LogLine → Bool
is_about subject line = subject_eq (subject_of line) subject

-- the last line about a subject
abbrev pub last_line : Subject → List LogLine → Option LogLine
last_line subject log = find (is_about subject) (reverse log)

-- whether a line drops what was told of its subject
abbrev pub is_drop : LogLine → Bool
is_drop (lines.Record r) = false
is_drop (lines.Drop outs) = true
is_drop (lines.Scan s) = false

-- what a line tells of its subject: itself, and a drop nothing
abbrev pub told_by : LogLine → Option LogLine
told_by line = if is_drop line then None else Some line

-- what a log tells of a subject: the last line about it; nothing where that line is a drop or there is none
abbrev pub told : Subject → List LogLine → Option LogLine
told subject log = option_and_then told_by (last_line subject log)

-- the record that a line is
abbrev pub record_in : LogLine → Option Record
record_in (lines.Record r) = Some r
record_in (lines.Drop outs) = None
record_in (lines.Scan s) = None

-- the record that a log tells of exactly these outputs
abbrev pub find_record : List (List ℕ) → List LogLine → Option Record
find_record outs log = option_and_then record_in (told (subjects.Outputs outs) log)

-- the scan that a line is, at a stamp
abbrev pub scan_in : ℕ → LogLine → Option ScanLine
scan_in stamp (lines.Record r) = None
scan_in stamp (lines.Drop outs) = None
scan_in stamp (lines.Scan s) = if s.stamp == stamp then Some s else None

-- the scan that a log tells of a path, where it was made at this stamp
abbrev pub find_scan : List ℕ → ℕ → List LogLine → Option ScanLine
find_scan path stamp log = option_and_then (scan_in stamp) (told (subjects.Scanned path) log)

-- whether a line is kept, where these follow it: it is no drop, and no later line is about its subject
abbrev pub is_kept : LogLine → List LogLine → Bool
is_kept line later = not (is_drop line) && not (list_any (is_about (subject_of line)) later)

-- the lines that the log tells, in order
abbrev pub kept : List LogLine → List LogLine
kept [] = []
kept (line ∷ later) = if is_kept line later then line ∷ kept later else kept later
