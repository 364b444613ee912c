use Rattle.std.proofs.Common.{◌≡◌, ◌⊎◌, ℕ, ◌≤◌, Bool, true, false, cond, List, [], ◌∷◌, length, inl, inr, sym, ap, subst, ◌∙◌, length-append, arith, option_and_then}
use Rattle.std.specs.List.{Contains, AllByRecursion}
use Rattle.b2_log.specs.declared.line.LogLine.{LogLine}
use Rattle.b2_log.specs.Lines.{spelling, log_bytes}
use Rattle.b2_log.specs.Good.{IsGood}
use Rattle.b2_log.specs.declared.subject.Subject.{Subject}
use Rattle.b2_log.specs.declared.subject.Subject.TheVariants as subjects
use Rattle.b2_log.specs.Finding.{is_kept, told, record_in, find_record, kept}
use Rattle.b2_log.proofs.BytesHaveOneReading.{reading_whole}
use Rattle.b2_log.proofs.KeptLinesTellTheSame.{kept_again}
use Rattle.b2_runs.specs.LogFiles.{log_limit, IsLogOf, IsLogOf.is_read, IsLogOf.is_large}
use Rattle.b2_runs.specs.LogFileLaws.{KeptTellsSame}
use Rattle.b2_runs.proofs.FirstElementOrLater.{Contains_here, Contains_there, Contains_cases}
use Rattle.b2_runs.proofs.FileIsOneLog.{file_is_one_log}

-- what is kept is among the lines
kept_if : (b : Bool) (line : LogLine) (later : List LogLine) (x : LogLine) → Contains (cond b (line ∷ kept later) (kept later)) x → (line ≡ x) ⊎ Contains (kept later) x
kept_if true line later x c = Contains_cases line x (kept later) c
kept_if false line later x c = inr c

pub kept_among : (log : List LogLine) (x : LogLine) → Contains (kept log) x → Contains log x
kept_among [] x c = c
kept_among (line ∷ later) x c = elim (kept_if (is_kept line later) line later x c) [
  | inl e ↦ subst (λ z. Contains (line ∷ later) z) e (Contains_here line later)
  | inr d ↦ Contains_there line x later (kept_among later x d)
]

-- good lines that are kept are good
kept_good_if : (b : Bool) (line : LogLine) (later : List LogLine) → IsGood line → AllByRecursion IsGood (kept later) → AllByRecursion IsGood (cond b (line ∷ kept later) (kept later))
kept_good_if true line later g rest = (g, rest)
kept_good_if false line later g rest = rest

pub kept_good : (log : List LogLine) → AllByRecursion IsGood log → AllByRecursion IsGood (kept log)
kept_good [] each = each
kept_good (line ∷ later) each = kept_good_if (is_kept line later) line later each.0 (kept_good later each.1)

-- what is kept tells the same
pub kept_told : (log : List LogLine) (subject : Subject) → told subject (kept log) ≡ told subject log
kept_told log subject = (kept_again log).told_same subject

-- the kept lines are no longer than all
pub kept_shorter : (log : List LogLine) → length (log_bytes (kept log)) ≤ length (log_bytes log)
kept_shorter [] = omega arith
kept_shorter (line ∷ later) = go (is_kept line later) (kept_shorter later)
  where
    go : (b : Bool) → length (log_bytes (kept later)) ≤ length (log_bytes later) → length (log_bytes (cond b (line ∷ kept later) (kept later))) ≤ length (log_bytes (line ∷ later))
    go true less = omega (arith, less, length-append (spelling line) (log_bytes (kept later)), length-append (spelling line) (log_bytes later))
    go false less = omega (arith, less, length-append (spelling line) (log_bytes later))

-- the lines that a file counts as are good, and within the limit
pub record IsWithin (log : List LogLine) : Type 0 where
  pub each : AllByRecursion IsGood log
  pub size : length (log_bytes log) ≤ log_limit

pub within_limit : (bytes : List ℕ) (log : List LogLine) → IsLogOf bytes log → IsWithin log
within_limit bytes log (is_read good within r) = record { each = r.each; size = omega (arith, within, ap length r.split, length-append (log_bytes log) r.rest) }
within_limit bytes log (is_large above e) = subst IsWithin (sym e) (record { each = tt; size = omega arith })

-- the kept lines as a file
kept_log : (bytes : List ℕ) (log : List LogLine) → IsLogOf bytes log → IsLogOf (log_bytes (kept log)) (kept log)
kept_log bytes log is =
    let w = within_limit bytes log is in
    is_read (length (log_bytes (kept log))) (omega (arith, w.size, kept_shorter log)) (reading_whole (kept log) (kept_good log w.each))

pub kept_tells_same : KeptTellsSame
kept_tells_same bytes log outs told is = (
  λ t. (log, is, sym found ∙ ap (find_record outs) (file_is_one_log (log_bytes (kept log)) (kept log) t.0 (kept_log bytes log is) t.1) ∙ t.2),
  λ t. (kept log, kept_log bytes log is, found ∙ ap (find_record outs) (file_is_one_log bytes log t.0 is t.1) ∙ t.2),
)
  where
    found : find_record outs (kept log) ≡ find_record outs log
    found = ap (option_and_then record_in) (kept_told log (subjects.Outputs outs))
