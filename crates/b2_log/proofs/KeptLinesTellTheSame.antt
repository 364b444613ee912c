-- The kept lines: what they tell, and how they are written.
use Rattle.std.proofs.Common.{◌≡◌, ℕ, zero, suc, ◌+◌, ◌<◌, ◌≤◌, Bool, true, false, cond, not, List, [], ◌∷◌, ◌++◌, ◌⊎◌, length, get_or, drop, Option, Some, None, refl, sym, ap, subst, ◌∙◌, append_assoc, inl, inr, arith}
use Rattle.std.specs.Prelude.{option_and_then, ◌&&◌}
use Rattle.std.specs.List.{list_any, AllByRecursion, Contains}
use Rattle.std.proofs.lemmas.Bool.{cases_Bool}
use Rattle.std.proofs.lemmas.List.{append-nil}
use Rattle.std.proofs.lemmas.List.Concat.{flat_map-append}
use Rattle.b2_log.specs.declared.line.LogLine.{LogLine}
use Rattle.b2_log.specs.declared.subject.Subject.{Subject}
use Rattle.b2_log.specs.Lines.{spelling, log_bytes}
use Rattle.b2_log.specs.Good.{IsGood}
use Rattle.b2_log.specs.Finding.{subject_of, is_about, is_drop, last_line, told_by, told, is_kept, kept}
use Rattle.b2_log.specs.Laws.{KeptIsTold, KeptAgain}
use Rattle.b2_log.specs.Places.{IsIndexed, kept_at}
use Rattle.b2_log.proofs.LastLineHasLastWord.{false_true, subject_is, subject_self, or_first, last_cons, told_is_there}
use Rattle.b2_log.proofs.PlacesFindTheLastLines.{kept_by_place}

-- ---- why a line is kept or not

pub data KeptCase (line : LogLine) (later : List LogLine) : Type 0 where
  is_last : is_kept line later ≡ true → is_drop line ≡ false → list_any (is_about (subject_of line)) later ≡ false → KeptCase line later
  is_dropped : is_kept line later ≡ false → is_drop line ≡ true → KeptCase line later
  is_repeated : is_kept line later ≡ false → list_any (is_about (subject_of line)) later ≡ true → KeptCase line later

pub kept_case : (line : LogLine) (later : List LogLine) → KeptCase line later
kept_case line later = elim (cases_Bool (is_drop line)) [
  | inl d ↦ is_dropped (ap (λ (b : Bool). not b && not (list_any (is_about (subject_of line)) later)) d) d
  | inr d ↦ elim (cases_Bool (list_any (is_about (subject_of line)) later)) [
    | inl e ↦ is_repeated (ap (λ (b : Bool). not b && not (list_any (is_about (subject_of line)) later)) d ∙ ap not e) e
    | inr e ↦ is_last (ap (λ (b : Bool). not b && not (list_any (is_about (subject_of line)) later)) d ∙ ap not e) d e
  ]
]

pub kept_cons : (line : LogLine) (later : List LogLine) (b : Bool) → is_kept line later ≡ b → kept (line ∷ later) ≡ cond b (line ∷ kept later) (kept later)
kept_cons line later b e = ap (λ (c : Bool). cond c (line ∷ kept later) (kept later)) e

-- ---- the last line of what is kept

-- no line is about the subject
pub last_none : (subject : Subject) (xs : List LogLine) → list_any (is_about subject) xs ≡ false → last_line subject xs ≡ None
last_none subject [] none = refl
last_none subject (x ∷ xs) none = elim (cases_Bool (is_about subject x)) [
  | inl e ↦ absurd (false_true (sym (rw e at none)))
  | inr e ↦ last_cons subject x xs ∙ rw e (ap (λ (o : Option LogLine). or_first o false x) (last_none subject xs (rw e at none)))
]

-- one is
abbrev IsThere : Option LogLine → Type 0
IsThere (Some z) = Unit {0}
IsThere None = ⊥

or_there : (a : Option LogLine) (b : Bool) (x : LogLine) → IsThere a → IsThere (or_first a b x)
or_there (Some z) b x h = tt
or_there None b x h = absurd h

or_itself : (a : Option LogLine) (x : LogLine) → IsThere (or_first a true x)
or_itself (Some z) x = tt
or_itself None x = tt

last_there : (subject : Subject) (xs : List LogLine) → list_any (is_about subject) xs ≡ true → IsThere (last_line subject xs)
last_there subject [] some = absurd (false_true some)
last_there subject (x ∷ xs) some = subst IsThere (sym (last_cons subject x xs)) (elim (cases_Bool (is_about subject x)) [
  | inl e ↦ rw e (or_itself (last_line subject xs) x)
  | inr e ↦ or_there (last_line subject xs) (is_about subject x) x (last_there subject xs (rw e at some))
])

-- no kept line is
none_if : (p : LogLine → Bool) (b : Bool) (line : LogLine) (later : List LogLine) → p line ≡ false → list_any p later ≡ false → list_any p (cond b (line ∷ later) later) ≡ false
none_if p true line later e none = rw e none
none_if p false line later e none = none

kept_none : (p : LogLine → Bool) (log : List LogLine) → list_any p log ≡ false → list_any p (kept log) ≡ false
kept_none p [] none = refl
kept_none p (line ∷ later) none = elim (cases_Bool (p line)) [
  | inl e ↦ absurd (false_true (sym (rw e at none)))
  | inr e ↦ none_if p (is_kept line later) line (kept later) e (kept_none p later (rw e at none))
]

-- ---- what is told

abbrev tells : Option LogLine → Option LogLine
tells line = option_and_then told_by line

-- by the first line and what the later ones have
told_cons : (subject : Subject) (x : LogLine) (xs : List LogLine) (b : Bool) → is_about subject x ≡ b → told subject (x ∷ xs) ≡ tells (or_first (last_line subject xs) b x)
told_cons subject x xs b e = ap tells (last_cons subject x xs ∙ ap (λ (c : Bool). or_first (last_line subject xs) c x) e)

or_other : (a : Option LogLine) (x : LogLine) → or_first a false x ≡ a
or_other (Some z) x = refl
or_other None x = refl

-- a line about another subject
pub told_past : (subject : Subject) (x : LogLine) (xs : List LogLine) → is_about subject x ≡ false → told subject (x ∷ xs) ≡ told subject xs
told_past subject x xs e = told_cons subject x xs false e ∙ ap tells (or_other (last_line subject xs) x)

-- a line about a subject of which no later line is
pub told_first : (subject : Subject) (x : LogLine) (xs : List LogLine) → is_about subject x ≡ true → list_any (is_about subject) xs ≡ false → told subject (x ∷ xs) ≡ told_by x
told_first subject x xs e none = told_cons subject x xs true e ∙ ap (λ (a : Option LogLine). tells (or_first a true x)) (last_none subject xs none)

there_first : (a : Option LogLine) (b : Bool) (x : LogLine) → IsThere a → tells (or_first a b x) ≡ tells a
there_first (Some z) b x h = refl
there_first None b x h = absurd h

-- a line that is not kept tells nothing
drop_first : (a : Option LogLine) (b : Bool) (x : LogLine) → is_drop x ≡ true → tells (or_first a b x) ≡ tells a
drop_first (Some z) b x d = refl
drop_first None true x d = ap (λ (t : Bool). cond t None (Some x)) d
drop_first None false x d = refl

pub dropped_past : (subject : Subject) (x : LogLine) (xs : List LogLine) → is_drop x ≡ true → told subject (x ∷ xs) ≡ told subject xs
dropped_past subject x xs d = told_cons subject x xs (is_about subject x) refl ∙ drop_first (last_line subject xs) (is_about subject x) x d

pub repeated_past : (subject : Subject) (x : LogLine) (xs : List LogLine) → list_any (is_about (subject_of x)) xs ≡ true → told subject (x ∷ xs) ≡ told subject xs
repeated_past subject x xs some = elim (cases_Bool (is_about subject x)) [
  | inl e ↦
      let here : list_any (is_about subject) xs ≡ true = subst (λ (s : Subject). list_any (is_about s) xs ≡ true) (subject_is (subject_of x) subject e) some in
      told_cons subject x xs true e ∙ there_first (last_line subject xs) true x (last_there subject xs here)
  | inr e ↦ told_past subject x xs e
]

-- a line that is kept, before the lines that are kept of the later ones
kept_first : (subject : Subject) (x : LogLine) (xs : List LogLine) → list_any (is_about (subject_of x)) xs ≡ false → told subject (kept xs) ≡ told subject xs → told subject (x ∷ kept xs) ≡ told subject (x ∷ xs)
kept_first subject x xs none same = elim (cases_Bool (is_about subject x)) [
  | inl e ↦
      let here : list_any (is_about subject) xs ≡ false = subst (λ (s : Subject). list_any (is_about s) xs ≡ false) (subject_is (subject_of x) subject e) none in
      told_first subject x (kept xs) e (kept_none (is_about subject) xs here) ∙ sym (told_first subject x xs e here)
  | inr e ↦ told_past subject x (kept xs) e ∙ same ∙ sym (told_past subject x xs e)
]

told_same : (subject : Subject) (log : List LogLine) → told subject (kept log) ≡ told subject log
told_same subject [] = refl
told_same subject (line ∷ later) = elim (kept_case line later) [
  | is_last k d none ↦ ap (told subject) (kept_cons line later true k) ∙ kept_first subject line later none (told_same subject later)
  | is_dropped k d ↦ ap (told subject) (kept_cons line later false k) ∙ told_same subject later ∙ sym (dropped_past subject line later d)
  | is_repeated k some ↦ ap (told subject) (kept_cons line later false k) ∙ told_same subject later ∙ sym (repeated_past subject line later some)
]

kept_same : (log : List LogLine) → kept (kept log) ≡ kept log
kept_same [] = refl
kept_same (line ∷ later) = elim (kept_case line later) [
  | is_last k d none ↦
      let again : is_kept line (kept later) ≡ true = ap (λ (b : Bool). not b && not (list_any (is_about (subject_of line)) (kept later))) d ∙ ap not (kept_none (is_about (subject_of line)) later none) in
      ap kept (kept_cons line later true k) ∙ kept_cons line (kept later) true again ∙ ap (λ (ls : List LogLine). line ∷ ls) (kept_same later) ∙ sym (kept_cons line later true k)
  | is_dropped k d ↦ ap kept (kept_cons line later false k) ∙ kept_same later ∙ sym (kept_cons line later false k)
  | is_repeated k some ↦ ap kept (kept_cons line later false k) ∙ kept_same later ∙ sym (kept_cons line later false k)
]

pub kept_again : (log : List LogLine) → KeptAgain log
kept_again log = record { told_same = λ subject. told_same subject log; kept_same = kept_same log }

-- ---- what is kept is told

-- what a later line tells
told_still : (subject : Subject) (x line : LogLine) (xs : List LogLine) → told subject xs ≡ Some line → told subject (x ∷ xs) ≡ Some line
told_still subject x line xs e = told_cons subject x xs (is_about subject x) refl ∙ go (last_line subject xs) (is_about subject x) e
  where
    go : (a : Option LogLine) (b : Bool) → tells a ≡ Some line → tells (or_first a b x) ≡ Some line
    go (Some z) b f = f
    go None b f = absurd (let g : None ≡ Some line = f in cc)

contains_cases : {X : Type 0} (x y : X) (xs : List X) → Contains (x ∷ xs) y → (x ≡ y) ⊎ Contains xs y
contains_cases x y xs (zero, h, e) = inl e
contains_cases x y xs (suc k, h, e) = inr (k, omega arith, e)

pub no_drop : (x : LogLine) → is_drop x ≡ false → told_by x ≡ Some x
no_drop x d = ap (λ (t : Bool). cond t None (Some x)) d

member_told : (log : List LogLine) (line : LogLine) → Contains (kept log) line → told (subject_of line) log ≡ Some line
member_told [] line (k, h, e) = absurd (omega arith)
member_told (x ∷ xs) line c = elim (kept_case x xs) [
  | is_last k d none ↦ elim (contains_cases x line (kept xs) (subst (λ (ls : List LogLine). Contains ls line) (kept_cons x xs true k) c)) [
    | inl same ↦ subst (λ (l : LogLine). told (subject_of l) (x ∷ xs) ≡ Some l) same (told_first (subject_of x) x xs (subject_self (subject_of x)) none ∙ no_drop x d)
    | inr there ↦ told_still (subject_of line) x line xs (member_told xs line there)
  ]
  | is_dropped k d ↦ told_still (subject_of line) x line xs (member_told xs line (subst (λ (ls : List LogLine). Contains ls line) (kept_cons x xs false k) c))
  | is_repeated k some ↦ told_still (subject_of line) x line xs (member_told xs line (subst (λ (ls : List LogLine). Contains ls line) (kept_cons x xs false k) c))
]

pub kept_is_told : KeptIsTold
kept_is_told log line = (member_told log line, λ e. (told_is_there (subject_of line) (kept log) line (told_same (subject_of line) log ∙ e)).0)

-- ---- the kept lines are written one after the other

-- what was written so far: the lines are good, and with those that are left they are the kept ones
pub record KeptSo (log : List LogLine) (bytes : List ℕ) (k : ℕ) : Type 0 where
  pub written : List LogLine
  pub spelled : bytes ≡ log_bytes written
  pub each : AllByRecursion IsGood written
  pub whole : written ++ kept (drop k log) ≡ kept log

all_append : (xs ys : List LogLine) → AllByRecursion IsGood xs → AllByRecursion IsGood ys → AllByRecursion IsGood (xs ++ ys)
all_append [] ys p q = q
all_append (x ∷ xs) ys p q = (p.0, all_append xs ys p.1 q)

pub kept_more : (log : List LogLine) (places : Subject → Option ℕ) (k : ℕ) (line : LogLine) (bytes more : List ℕ) → IsIndexed log places → k < length log → line ≡ get_or log k line
    → KeptSo log bytes k → more ≡ bytes ++ log_bytes (kept_at places k line) → AllByRecursion IsGood (kept_at places k line) → KeptSo log more (k + 1)
kept_more log places k line bytes more indexed lt at so pushed good = record {
  written = so.written ++ kept_at places k line;
  spelled = pushed ∙ ap (λ (w : List ℕ). w ++ log_bytes (kept_at places k line)) so.spelled ∙ sym (flat_map-append spelling so.written (kept_at places k line));
  each = all_append so.written (kept_at places k line) so.each good;
  whole = append_assoc so.written (kept_at places k line) (kept (drop (k + 1) log)) ∙ ap (λ (ls : List LogLine). so.written ++ ls) (sym (kept_by_place log places k line indexed lt at)) ∙ so.whole;
}

past_end : (log : List LogLine) (k : ℕ) → length log ≤ k → drop k log ≡ []
past_end [] zero le = refl
past_end [] (suc k) le = refl
past_end (x ∷ xs) zero le = absurd (omega arith)
past_end (x ∷ xs) (suc k) le = past_end xs k (omega arith)

all_written : (log : List LogLine) (bytes : List ℕ) (k : ℕ) → length log ≤ k → (so : KeptSo log bytes k) → so.written ≡ kept log
all_written log bytes k le so = sym (append-nil so.written) ∙ ap (λ (ls : List LogLine). so.written ++ kept ls) (sym (past_end log k le)) ∙ so.whole
