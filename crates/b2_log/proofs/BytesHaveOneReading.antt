-- Good lines are read as written and in no other way; one more is read back, and a torn one leaves those before it.
use Rattle.std.proofs.Common.{◌≡◌, ℕ, ◌+◌, ◌-◌, ◌<◌, List, [], ◌∷◌, ◌++◌, length, refl, sym, ap, subst, ◌∙◌, append_assoc, length-append, arith}
use Rattle.std.specs.List.{AllByRecursion}
use Rattle.std.proofs.lemmas.List.{append-nil, nil_from_length}
use Rattle.std.proofs.lemmas.List.Concat.{flat_map-append}
use Rattle.b2_log.specs.declared.line.LogLine.{LogLine}
use Rattle.b2_log.specs.Lines.{spelling, log_bytes}
use Rattle.b2_log.specs.Good.{IsGood}
use Rattle.b2_log.specs.Readings.{BeginsNone, IsReading}
use Rattle.b2_log.proofs.JoinedPartsHaveOneReading.{ReadSo, list_within}
use Rattle.b2_log.specs.Laws.{OneSpelling, OneReading, ReadBack, TornLine}
use Rattle.b2_log.proofs.LinesHaveOneReading.{line_is_free, line_long, line_shorter}

-- lines that were read one after the other, up to where no good line stands
pub reading_ends : (bytes : List ℕ) (lines : List LogLine) (rest : List ℕ) (i good : ℕ) → ReadSo spelling IsGood bytes lines rest i → BeginsNone spelling IsGood rest → good ≡ length bytes - length rest → IsReading bytes lines good
reading_ends bytes lines rest i good r none e = record {
  rest = rest;
  split = r.split;
  each = r.each;
  measure = omega (arith, e, ap length r.split, length-append (log_bytes lines) rest);
  longest = λ others after each split.
      let w = list_within spelling IsGood line_is_free lines others rest after r.each each (sym r.split ∙ split) none in
      omega (arith, w.size, e, ap length r.split, length-append (log_bytes lines) rest);
}

-- where nothing is left, no good line stands
nothing_left : BeginsNone spelling IsGood []
nothing_left line rest b = omega (arith, line_shorter [] line rest b)

-- good lines are read as they are
pub reading_whole : (lines : List LogLine) → AllByRecursion IsGood lines → IsReading (log_bytes lines) lines (length (log_bytes lines))
reading_whole lines each = reading_ends (log_bytes lines) lines [] (length lines) (length (log_bytes lines)) (record { split = sym (append-nil (log_bytes lines)); each = each; count = refl }) nothing_left (omega arith)

-- two readings of one length are one
same_lines : (xs ys : List LogLine) (u v : List ℕ) → AllByRecursion IsGood xs → AllByRecursion IsGood ys → log_bytes xs ++ u ≡ log_bytes ys ++ v → length (log_bytes xs) ≡ length (log_bytes ys) → xs ≡ ys
same_lines [] [] u v p q e long = refl
same_lines [] (y ∷ ys) u v p q e long = absurd (omega (arith, long, line_long y, length-append (spelling y) (log_bytes ys)))
same_lines (x ∷ xs) [] u v p q e long = absurd (omega (arith, long, line_long x, length-append (spelling x) (log_bytes xs)))
same_lines (x ∷ xs) (y ∷ ys) u v p q e long =
    let first = line_is_free.one x y (log_bytes xs ++ u) (log_bytes ys ++ v) p.0 q.0 (sym (append_assoc (spelling x) (log_bytes xs) u) ∙ e ∙ append_assoc (spelling y) (log_bytes ys) v) in
    let rest = same_lines xs ys u v p.1 q.1 first.1 (omega (arith, long, ap (λ l. length (spelling l)) first.0, length-append (spelling x) (log_bytes xs), length-append (spelling y) (log_bytes ys))) in
    let a : x ≡ y = first.0 in
    cc

pub one_reading : OneReading
one_reading bytes xs ys good also p q =
    let up = p.longest ys q.rest q.each q.split in
    let down = q.longest xs p.rest p.each p.split in
    let same : good ≡ also = omega (arith, up, down, p.measure, q.measure) in
    (same_lines xs ys p.rest q.rest p.each q.each (sym p.split ∙ q.split) (omega (arith, same, p.measure, q.measure)), same)

pub one_spelling : OneSpelling
one_spelling a b u v p q e = line_is_free.one a b u v p q e

-- what is all of the bytes leaves nothing
rest_empty : (bytes : List ℕ) (lines : List LogLine) → IsReading bytes lines (length bytes) → bytes ≡ log_bytes lines
rest_empty bytes lines r =
    let none : r.rest ≡ [] = nil_from_length r.rest (omega (arith, r.measure, ap length r.split, length-append (log_bytes lines) r.rest)) in
    r.split ∙ ap (λ (w : List ℕ). log_bytes lines ++ w) none ∙ append-nil (log_bytes lines)

more_good : (lines : List LogLine) (line : LogLine) → AllByRecursion IsGood lines → IsGood line → AllByRecursion IsGood (lines ++ line ∷ [])
more_good [] line each good = (good, tt)
more_good (x ∷ xs) line each good = (each.0, more_good xs line each.1 good)

pub read_back : ReadBack
read_back bytes lines line r good =
    let whole : log_bytes (lines ++ line ∷ []) ≡ bytes ++ spelling line = flat_map-append spelling lines (line ∷ []) ∙ ap (λ (w : List ℕ). log_bytes lines ++ w) (append-nil (spelling line)) ∙ ap (λ (w : List ℕ). w ++ spelling line) (sym (rest_empty bytes lines r)) in
    let long : length (log_bytes (lines ++ line ∷ [])) ≡ length bytes + length (spelling line) = ap length whole ∙ length-append bytes (spelling line) in
    subst (λ (n : ℕ). IsReading (bytes ++ spelling line) (lines ++ line ∷ []) n) long
    (subst (λ (w : List ℕ). IsReading w (lines ++ line ∷ []) (length (log_bytes (lines ++ line ∷ [])))) whole (reading_whole (lines ++ line ∷ []) (more_good lines line r.each good)))

-- no good line stands in a torn one
none_in_part : (line : LogLine) (part missing : List ℕ) → IsGood line → spelling line ≡ part ++ missing → 0 < length missing → BeginsNone spelling IsGood part
none_in_part line part missing good split more other rest b =
    let whole : spelling line ++ [] ≡ spelling other ++ (rest ++ missing) = append-nil (spelling line) ∙ split ∙ ap (λ (w : List ℕ). w ++ missing) b.split ∙ append_assoc (spelling other) rest missing in
    let left : [] ≡ rest ++ missing = (line_is_free.one line other [] (rest ++ missing) good b.so whole).1 in
    omega (arith, more, ap length left, length-append rest missing)

pub torn_line : TornLine
torn_line bytes lines line part missing r good split more =
    reading_ends (bytes ++ part) lines part (length lines) (length bytes)
    (record { split = ap (λ (w : List ℕ). w ++ part) (rest_empty bytes lines r); each = r.each; count = refl })
    (none_in_part line part missing good split more)
    (omega (arith, length-append bytes part))
