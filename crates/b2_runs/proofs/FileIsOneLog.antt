use Rattle.std.proofs.Common.{◌≡◌, ℕ, zero, suc, ◌+◌, ◌-◌, ◌<◌, ◌≤◌, List, [], ◌∷◌, ◌++◌, length, inl, inr, refl, sym, ap, subst, ◌∙◌, append_assoc, append-nil, length-append, arith}
use Rattle.std.specs.List.{Contains, AllByRecursion}
use Rattle.std.proofs.lemmas.Bool.{cases_lt}
use Rattle.std.proofs.lemmas.List.Concat.{flat_map-append}
use Rattle.b2_log.specs.declared.line.LogLine.{LogLine}
use Rattle.b2_log.specs.Lines.{spelling, log_bytes}
use Rattle.b2_log.specs.Good.{IsGood}
use Rattle.b2_log.specs.Readings.{Begins, IsReading}
use Rattle.b2_log.specs.Finding.{told, find_record}
use Rattle.b2_log.proofs.LinesHaveOneReading.{line_long, line_shorter}
use Rattle.b2_log.proofs.JoinedPartsHaveOneReading.{ReadSo}
use Rattle.b2_log.proofs.BytesHaveOneReading.{one_spelling, one_reading, reading_ends}
use Rattle.b2_runs.specs.LogFiles.{log_limit, IsLogOf.is_read, IsLogOf.is_large}
use Rattle.b2_runs.specs.LogFileLaws.{FileIsOneLog, FileIsSomeLog, ReadFileTells}
use Rattle.b2_runs.proofs.FirstElementOrLater.{Contains_here, Contains_there, Contains_cases, Contains_nil}

-- good lines that are no longer than others, and begin the same bytes, are among them
pub lines_among : (xs ys : List LogLine) (u v : List ℕ) → AllByRecursion IsGood xs → AllByRecursion IsGood ys → log_bytes xs ++ u ≡ log_bytes ys ++ v → length (log_bytes xs) ≤ length (log_bytes ys) → (line : LogLine) → Contains xs line → Contains ys line
lines_among [] ys u v p q e long line c = absurd (Contains_nil line c)
lines_among (x ∷ xs) [] u v p q e long line c = absurd (omega (arith, long, line_long x, length-append (spelling x) (log_bytes xs)))
lines_among (x ∷ xs) (y ∷ ys) u v p q e long line c =
    let first = one_spelling x y (log_bytes xs ++ u) (log_bytes ys ++ v) p.0 q.0 (sym (append_assoc (spelling x) (log_bytes xs) u) ∙ e ∙ append_assoc (spelling y) (log_bytes ys) v) in
    let same : length (spelling x) ≡ length (spelling y) = ap (λ (l : LogLine). length (spelling l)) first.0 in
    elim (Contains_cases x line xs c) [
      | inl here ↦ subst (λ z. Contains (y ∷ ys) z) (sym first.0 ∙ here) (Contains_here y ys)
      | inr there ↦ Contains_there y line ys (lines_among xs ys u v p.1 q.1 first.1 (omega (arith, long, same, length-append (spelling x) (log_bytes xs), length-append (spelling y) (log_bytes ys))) line there)
    ]

-- a file counts as one list of lines
pub file_is_one_log : FileIsOneLog
file_is_one_log bytes log other (is_read n within r) (is_read m less s) = (one_reading bytes log other n m r s).0
file_is_one_log bytes log other (is_read n within r) (is_large above e) = absurd (omega (arith, within, above))
file_is_one_log bytes log other (is_large above e) (is_read m within s) = absurd (omega (arith, within, above))
file_is_one_log bytes log other (is_large above e) (is_large more f) = e ∙ sym f

-- good lines that were read, and one more
one_more : (bytes : List ℕ) (log : List LogLine) (line : LogLine) (rest after : List ℕ) → ReadSo spelling IsGood bytes log rest (length log) → Begins spelling IsGood rest line after → ReadSo spelling IsGood bytes (log ++ line ∷ []) after (length (log ++ line ∷ []))
one_more bytes log line rest after r b = record {
  split = r.split ∙ ap (λ (w : List ℕ). log_bytes log ++ w) b.split ∙ sym (append_assoc (log_bytes log) (spelling line) after) ∙ ap (λ (w : List ℕ). w ++ after) (sym whole);
  each = more_good log r.each;
  count = refl;
}
  where
    whole : log_bytes (log ++ line ∷ []) ≡ log_bytes log ++ spelling line
    whole = flat_map-append spelling log (line ∷ []) ∙ ap (λ (w : List ℕ). log_bytes log ++ w) (append-nil (spelling line))

    more_good : (xs : List LogLine) → AllByRecursion IsGood xs → AllByRecursion IsGood (xs ++ line ∷ [])
    more_good [] each = (b.so, tt)
    more_good (x ∷ xs) each = (each.0, more_good xs each.1)

-- lines are read on, up to where no good line stands
some_reading : (bytes : List ℕ) → ((log : List LogLine) (good : ℕ) → IsReading bytes log good → ⊥) → (n : ℕ) (log : List LogLine) (rest : List ℕ) → length rest < n → ReadSo spelling IsGood bytes log rest (length log) → ⊥
some_reading bytes none zero log rest short r = omega (arith, short)
some_reading bytes none (suc n) log rest short r =
    none log (length bytes - length rest)
    (reading_ends bytes log rest (length log) (length bytes - length rest) r (λ line after b. some_reading bytes none n (log ++ line ∷ []) after (omega (arith, short, line_shorter rest line after b)) (one_more bytes log line rest after r b)) refl)

pub file_is_some_log : FileIsSomeLog
file_is_some_log bytes none = elim (cases_lt log_limit (length bytes)) [
  | inl above ↦ none [] (is_large above refl)
  | inr within ↦ some_reading bytes (λ log good r. none log (is_read good within r)) (length bytes + 1) [] bytes (omega arith) (record { split = refl; each = tt; count = refl })
]

pub read_file_tells : ReadFileTells
read_file_tells bytes log outs told is = (λ t. ap (find_record outs) (file_is_one_log bytes log t.0 is t.1) ∙ t.2, λ e. (log, is, e))
