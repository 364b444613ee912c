-- One more line: it is kept unless it is a drop, and the line that told of its subject is kept no longer.
use Rattle.std.proofs.Common.{◌≡◌, ℕ, ◌+◌, ◌<◌, ◌≤◌, Bool, true, false, cond, not, List, [], ◌∷◌, ◌++◌, length, reverse, Option, Some, None, refl, sym, ap, subst, ◌∙◌, length-append, inl, inr, arith}
use Rattle.std.specs.Prelude.{◌&&◌, ◌||◌, is_some, option_and_then, MatchOption, IfSome}
use Rattle.std.specs.List.{list_any, AllByRecursion, slice_index_or}
use Rattle.std.proofs.lemmas.Bool.{cases_Bool}
use Rattle.std.proofs.lemmas.List.{get_or_append_left, length-reverse}
use Rattle.std.proofs.lemmas.List.Folds.{list_any-append}
use Rattle.b2_log.specs.declared.line.LogLine.{LogLine}
use Rattle.b2_log.specs.declared.subject.Subject.{Subject}
use Rattle.b2_log.specs.Good.{IsProper}
use Rattle.b2_log.specs.Finding.{subject_of, subject_eq, is_about, is_drop, told_by, told, is_kept, kept}
use Rattle.b2_log.specs.Places.{place_of, IsIndexed, IsLog, one_if}
use Rattle.b2_log.proofs.LastLineHasLastWord.{false_true, subject_is, subject_self}
use Rattle.b2_log.proofs.PlacesFindTheLastLines.{reverse_push, untold, found_at}
use Rattle.b2_log.proofs.KeptLinesTellTheSame.{KeptCase, kept_case, kept_cons, told_past, told_first, dropped_past, repeated_past, last_none, no_drop, is_last, is_dropped, is_repeated}

-- ---- tests of a subject

eq_turned : (a b : Subject) (r : Bool) → subject_eq a b ≡ r → subject_eq b a ≡ r
eq_turned a b true e = let same : a ≡ b = subject_is a b e in subst (λ (s : Subject). subject_eq s a ≡ true) same (subject_self a)
eq_turned a b false e = elim (cases_Bool (subject_eq b a)) [
  | inl y ↦ let same : b ≡ a = subject_is b a y in absurd (false_true (sym e ∙ subst (λ (s : Subject). subject_eq s b ≡ true) same (subject_self b)))
  | inr n ↦ n
]

-- whether a line is kept, where one more line follows
kept_before : (x line : LogLine) (xs : List LogLine) (r : Bool) → is_about (subject_of line) x ≡ r → is_kept x (xs ++ line ∷ []) ≡ (is_kept x xs && not r)
kept_before x line xs r e = ap (λ (b : Bool). not (is_drop x) && not b) (list_any-append (is_about (subject_of x)) xs (line ∷ [])) ∙ by_tests (is_drop x) (list_any (is_about (subject_of x)) xs) (is_about (subject_of x) line) r (eq_turned (subject_of x) (subject_of line) r e)
  where
    by_tests : (dropped later here r : Bool) → here ≡ r → (not dropped && not (later || (here || false))) ≡ ((not dropped && not later) && not r)
    by_tests true later here r e = refl
    by_tests false true here r e = refl
    by_tests false false true r e = ap not e
    by_tests false false false r e = ap not e

-- ---- how many are kept

length_kept : (x : LogLine) (xs : List LogLine) (r : Bool) → is_kept x xs ≡ r → length (kept (x ∷ xs)) ≡ one_if r + length (kept xs)
length_kept x xs true e = ap length (kept_cons x xs true e) ∙ omega arith
length_kept x xs false e = ap length (kept_cons x xs false e) ∙ omega arith

-- at most all
pub kept_within : (log : List LogLine) → length (kept log) ≤ length log
kept_within [] = omega arith
kept_within (x ∷ xs) = elim (cases_Bool (is_kept x xs)) [
  | inl e ↦ omega (arith, length_kept x xs true e, kept_within xs)
  | inr e ↦ omega (arith, length_kept x xs false e, kept_within xs)
]

abbrev told_count : Option LogLine → ℕ
told_count found = one_if (is_some found)

-- what is to be shown of one more line
abbrev IsCounted : List LogLine → LogLine → Type 0
IsCounted log line = length (kept (log ++ line ∷ [])) + told_count (told (subject_of line) log) ≡ length (kept log) + one_if (not (is_drop line))

-- the first line is about another subject
counted_past : (x line : LogLine) (xs : List LogLine) (r : Bool) → is_about (subject_of line) x ≡ false → is_kept x xs ≡ r → IsCounted xs line → IsCounted (x ∷ xs) line
counted_past x line xs r e k more =
    let after : is_kept x (xs ++ line ∷ []) ≡ r = kept_before x line xs false e ∙ ap (λ (b : Bool). b && true) k ∙ and_true r in
    omega (arith, more, length_kept x xs r k, length_kept x (xs ++ line ∷ []) r after, ap told_count (told_past (subject_of line) x xs e))
  where
    and_true : (b : Bool) → (b && true) ≡ b
    and_true true = refl
    and_true false = refl

-- the first line is about the subject, and is kept no longer
unkept : (x line : LogLine) (xs : List LogLine) → is_about (subject_of line) x ≡ true → is_kept x (xs ++ line ∷ []) ≡ false
unkept x line xs e = kept_before x line xs true e ∙ and_false (is_kept x xs)
  where
    and_false : (b : Bool) → (b && false) ≡ false
    and_false true = refl
    and_false false = refl

counted_here : (x line : LogLine) (xs : List LogLine) → is_about (subject_of line) x ≡ true → KeptCase x xs → IsCounted xs line → IsCounted (x ∷ xs) line
counted_here x line xs e (is_last k d none) more =
    let is_same : subject_of x ≡ subject_of line = subject_is (subject_of x) (subject_of line) e in
    let no_later : list_any (is_about (subject_of line)) xs ≡ false = subst (λ (s : Subject). list_any (is_about s) xs ≡ false) is_same none in
    let here : told_count (told (subject_of line) (x ∷ xs)) ≡ 1 = ap told_count (told_first (subject_of line) x xs e no_later ∙ no_drop x d) in
    let later : told_count (told (subject_of line) xs) ≡ 0 = ap (λ (found : Option LogLine). told_count (option_and_then told_by found)) (last_none (subject_of line) xs no_later) in
    omega (arith, more, here, later, length_kept x xs true k, length_kept x (xs ++ line ∷ []) false (unkept x line xs e))
counted_here x line xs e (is_dropped k d) more =
    omega (arith, more, length_kept x xs false k, length_kept x (xs ++ line ∷ []) false (unkept x line xs e), ap told_count (dropped_past (subject_of line) x xs d))
counted_here x line xs e (is_repeated k some) more =
    let is_same : subject_of x ≡ subject_of line = subject_is (subject_of x) (subject_of line) e in
    omega (arith, more, length_kept x xs false k, length_kept x (xs ++ line ∷ []) false (unkept x line xs e), ap told_count (repeated_past (subject_of line) x xs some))

-- one more line
counted_more : (log : List LogLine) (line : LogLine) → IsCounted log line
counted_more [] line = elim (cases_Bool (is_drop line)) [
  | inl d ↦ rw d refl
  | inr d ↦ rw d refl
]
counted_more (x ∷ xs) line = elim (cases_Bool (is_about (subject_of line) x)) [
  | inl e ↦ counted_here x line xs e (kept_case x xs) (counted_more xs line)
  | inr e ↦ counted_past x line xs (is_kept x xs) e refl (counted_more xs line)
]

-- ---- by the place of the line before

-- whether the line at the place that was found is no drop
abbrev pub IsToldAt : List LogLine → Option ℕ → Bool → Type 0
IsToldAt lines place loses = MatchOption place (loses ≡ false) (λ found. (d : LogLine) → loses ≡ not (is_drop (slice_index_or lines found d)))

told_by_place : (log : List LogLine) (line : LogLine) (places : Subject → Option ℕ) (place : Option ℕ) (loses : Bool) → IsIndexed log places → places (subject_of line) ≡ place → IsToldAt (log ++ line ∷ []) place loses → told_count (told (subject_of line) log) ≡ one_if loses
told_by_place log line places None loses indexed e tells = ap told_count (untold (subject_of line) log places indexed e) ∙ ap one_if (sym tells)
told_by_place log line places (Some k) loses indexed e tells =
    let f = found_at (subject_of line) log places k indexed e in
    let told_here : told (subject_of line) log ≡ told_by f.0 = ap (option_and_then told_by) f.1 in
    ap told_count told_here ∙ by_test f.0 ∙ ap (λ (l : LogLine). one_if (not (is_drop l))) (sym (get_or_append_left log (line ∷ []) f.0 k f.2.within ∙ f.2.here f.0)) ∙ ap one_if (sym (tells f.0))
  where
    by_test : (l : LogLine) → told_count (told_by l) ≡ one_if (not (is_drop l))
    by_test l = elim (cases_Bool (is_drop l)) [ inl d ↦ rw d refl | inr d ↦ rw d refl ]

-- ---- a line that was added

-- What was done for one more line: it was put at the end, and its subject was given the place there.
pub record IsAdded (log more : List LogLine) (line : LogLine) (places : Subject → Option ℕ) (subject : Subject) (place : Option ℕ) : Type 0 where
  pub more_is : more ≡ log ++ line ∷ []
  pub subject_is : subject ≡ subject_of line
  pub place_is : place ≡ places subject

-- the place that was found stands in the log
pub place_within : (log more seen : List LogLine) (line : LogLine) (places : Subject → Option ℕ) (subject : Subject) (place : Option ℕ) → IsIndexed log places → IsAdded log more line places subject place → seen ≡ more → IfSome place (λ found. found < length seen)
place_within log more seen line places subject None indexed added e = tt
place_within log more seen line places subject (Some k) indexed added e =
    let f = found_at subject log places k indexed (sym added.place_is) in
    omega (arith, f.2.within, ap length e, ap length added.more_is, length-append log (line ∷ []))

-- how many are kept now
pub count_added : (log more seen : List LogLine) (line : LogLine) (places : Subject → Option ℕ) (subject : Subject) (place : Option ℕ) (kept_count : ℕ) (dropped loses : Bool) → IsLog log places kept_count → IsAdded log more line places subject place → seen ≡ more
    → dropped ≡ is_drop line → IsToldAt seen place loses → length (kept more) + one_if loses ≡ kept_count + one_if (not dropped)
count_added log more seen line places subject place kept_count dropped loses so added e drop_is tells =
    let found : places (subject_of line) ≡ place = ap places (sym added.subject_is) ∙ sym added.place_is in
    let there : IsToldAt (log ++ line ∷ []) place loses = subst (λ (ls : List LogLine). IsToldAt ls place loses) (e ∙ added.more_is) tells in
    let gain : one_if (not dropped) ≡ one_if (not (is_drop line)) = ap (λ (b : Bool). one_if (not b)) drop_is in
    omega (arith, counted_more log line, told_by_place log line places place loses so.index found there, so.count, gain, ap (λ (ls : List LogLine). length (kept ls)) added.more_is)

-- a number has room for them
pub room_added : (log : List LogLine) (places : Subject → Option ℕ) (kept_count : ℕ) (gains : Bool) → IsLog log places kept_count → kept_count + one_if gains ≤ length log + 1
room_added log places kept_count true so = omega (arith, kept_within log, so.count)
room_added log places kept_count false so = omega (arith, kept_within log, so.count)

push_proper : (xs : List LogLine) (x : LogLine) → AllByRecursion IsProper xs → IsProper x → AllByRecursion IsProper (xs ++ x ∷ [])
push_proper [] x each proper = (proper, tt)
push_proper (y ∷ ys) x each proper = (each.0, push_proper ys x each.1 proper)

pub log_added : (log more : List LogLine) (line : LogLine) (places after : Subject → Option ℕ) (subject : Subject) (place : Option ℕ) (kept_count now : ℕ) (gains loses : Bool) (at : ℕ) → IsLog log places kept_count → IsAdded log more line places subject place → IsProper line
    → at ≡ length log → ((other : Subject) → after other ≡ cond (subject_eq subject other) (Some at) (places other)) → now + one_if loses ≡ kept_count + one_if gains → length (kept more) + one_if loses ≡ kept_count + one_if gains → IsLog more after now
log_added log more line places after subject place kept_count now gains loses at so added proper at_end put counted is_so = record {
  index = record {
    place = λ other. put other ∙ ap (λ (s : Subject). cond (subject_eq s other) (Some at) (places other)) added.subject_is
        ∙ ap (λ (n : ℕ). cond (is_about other line) (Some n) (places other)) (at_end ∙ sym (length-reverse log))
        ∙ ap (λ (p : Option ℕ). cond (is_about other line) (Some (length (reverse log))) p) (so.index.place other)
        ∙ ap (place_of other) (sym (ap reverse added.more_is ∙ reverse_push log line));
    proper = subst (AllByRecursion IsProper) (sym added.more_is) (push_proper log line so.index.proper proper);
  };
  count = omega (arith, counted, is_so);
}
