-- The laws of written lines, and of what a log tells.
use Rattle.std.specs.Prelude.{◌≡◌, ◌≢◌, ◌↔◌, ℕ, ◌+◌, ◌<◌, List, [], ◌∷◌, ◌++◌, length, Some}
use Rattle.std.specs.List.{Contains}
use Rattle.b2_log.specs.declared.line.LogLine.{LogLine}
use Rattle.b2_log.specs.declared.subject.Subject.{Subject}
use Rattle.b2_log.specs.Lines.{spelling}
use Rattle.b2_log.specs.Good.{IsGood}
use Rattle.b2_log.specs.Readings.{IsReading}
use Rattle.b2_log.specs.Finding.{subject_of, told_by, told, kept}

-- ---- the bytes

-- two good lines of one spelling are the same, and none is the beginning of another
abbrev pub OneSpelling : Type 0
OneSpelling = (a b : LogLine) (after_a after_b : List ℕ) → IsGood a → IsGood b → spelling a ++ after_a ≡ spelling b ++ after_b → (a ≡ b) × (after_a ≡ after_b)

-- bytes have one reading
abbrev pub OneReading : Type 0
OneReading = (bytes : List ℕ) (lines others : List LogLine) (good also : ℕ) → IsReading bytes lines good → IsReading bytes others also → (lines ≡ others) × (good ≡ also)

-- a good line that is written at the end of a good log is read back, after the lines of the log
abbrev pub ReadBack : Type 0
ReadBack = (bytes : List ℕ) (lines : List LogLine) (line : LogLine) → IsReading bytes lines (length bytes) → IsGood line → IsReading (bytes ++ spelling line) (lines ++ line ∷ []) (length bytes + length (spelling line))

-- a line at the end of a good log of which only a beginning was written leaves the lines of the log
abbrev pub TornLine : Type 0
TornLine = (bytes : List ℕ) (lines : List LogLine) (line : LogLine) (part missing : List ℕ) → IsReading bytes lines (length bytes) → IsGood line → spelling line ≡ part ++ missing → 0 < length missing → IsReading (bytes ++ part) lines (length bytes)

-- ---- what is told

-- what a log tells of a subject is a line of it about this subject
abbrev pub ToldIsThere : Type 0
ToldIsThere = (subject : Subject) (log : List LogLine) (line : LogLine) → told subject log ≡ Some line → Contains log line × (subject_of line ≡ subject)

-- a line at the end has the last word on its subject
abbrev pub LastWord : Type 0
LastWord = (log : List LogLine) (line : LogLine) → told (subject_of line) (log ++ line ∷ []) ≡ told_by line

-- a line says nothing of other subjects
abbrev pub OthersUnsaid : Type 0
OthersUnsaid = (subject : Subject) (log : List LogLine) (line : LogLine) → subject_of line ≢ subject → told subject (log ++ line ∷ []) ≡ told subject log

-- the kept lines are those that the log tells of their subjects
abbrev pub KeptIsTold : Type 0
KeptIsTold = (log : List LogLine) (line : LogLine) → Contains (kept log) line ↔ (told (subject_of line) log ≡ Some line)

-- the kept lines tell of each subject what the log tells, and all of them are kept again
pub record KeptAgain (log : List LogLine) : Type 0 where
  pub told_same : (subject : Subject) → told subject (kept log) ≡ told subject log
  pub kept_same : kept (kept log) ≡ kept log
