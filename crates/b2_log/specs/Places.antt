-- The places of lines in a log.
use Rattle.std.specs.Prelude.{◌≡◌, ℕ, ◌==◌, Bool, false, not, ◌&&◌, List, [], ◌∷◌, ◌++◌, length, reverse, Option, Some, None, if◌then◌else◌}
use Rattle.std.specs.List.{AllByRecursion}
use Rattle.std.specs.Ordering.{nat_cmp}
use Rattle.std.specs.Cmp.Lexicographic.{slice_cmp}
use Rattle.std.specs.BTreeMap.{get_by}
use Rattle.b2_log.specs.declared.line.LogLine.{LogLine}
use Rattle.b2_log.specs.declared.latest.Latest.{Latest}
use Rattle.b2_log.specs.declared.log.Undo.{Undo}
use Rattle.b2_log.specs.declared.subject.Subject.{Subject}
use Rattle.b2_log.specs.declared.subject.Subject.TheVariants as subjects
use Rattle.b2_log.specs.Good.{IsProper}
use Rattle.b2_log.specs.Finding.{subject_of, is_about, is_drop, kept}

-- the place of the last line about a subject, where the lines are listed with the last one first
abbrev pub place_of : Subject → List LogLine → Option ℕ
place_of subject [] = None
place_of subject (line ∷ before) = if is_about subject line then Some (length before) else place_of subject before

-- the place that two maps have for a subject: the one for lists of outputs, the other for paths that were scanned
abbrev pub place_in : Latest → Subject → Option ℕ
place_in latest (subjects.Outputs outs) = get_by (λ key. slice_cmp (slice_cmp nat_cmp) outs key.items) latest.steps
place_in latest (subjects.Scanned path) = get_by (λ key. slice_cmp nat_cmp path key) latest.scans

-- the lines of a log: each is proper, and the places are those of the last line about each subject
pub record IsIndexed (lines : List LogLine) (places : Subject → Option ℕ) : Type 0 where
  pub place : (subject : Subject) → places subject ≡ place_of subject (reverse lines)
  pub proper : AllByRecursion IsProper lines

-- what a log keeps beside its lines: their places, and how many of them are kept
pub record IsLog (lines : List LogLine) (places : Subject → Option ℕ) (kept_count : ℕ) : Type 0 where
  pub index : IsIndexed lines places
  pub count : kept_count ≡ length (kept lines)

-- The undo is that of the last line: it has the subject of this line, the place that the subject had before, and how many lines
-- were kept then.
pub record TakesBack (undo : Undo) (before after : List LogLine) : Type 0 where
  pub line : LogLine
  pub split : after ≡ before ++ line ∷ []
  pub subject : undo.subject ≡ subject_of line
  pub place : undo.before ≡ place_of undo.subject (reverse before)
  pub kept : undo.kept_count ≡ length (kept before)

-- one where it is so, and else none
abbrev pub one_if : Bool → ℕ
one_if b = if b then 1 else 0

-- whether a place is this one
abbrev pub option_is : Option ℕ → ℕ → Bool
option_is None place = false
option_is (Some found) place = found == place

-- what is kept of the line at a place: the line, where it is no drop and this very place is that of its subject
abbrev pub kept_at : (Subject → Option ℕ) → ℕ → LogLine → List LogLine
kept_at places place line = if not (is_drop line) && option_is (places (subject_of line)) place then line ∷ [] else []
