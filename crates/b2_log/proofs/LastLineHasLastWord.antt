-- The last line about a subject, and what it tells.
use Rattle.std.proofs.Common.{◌≡◌, ◌≢◌, ℕ, zero, suc, Bool, true, false, cond, List, [], ◌∷◌, ◌++◌, reverse, Option, Some, None, refl, sym, ap, subst, ◌∙◌, inl, inr, arith}
use Rattle.std.specs.Prelude.{find, option_and_then}
use Rattle.std.specs.List.{Contains}
use Rattle.std.specs.Cmp.Lexicographic.{pointwise}
use Rattle.std.specs.Str.{bytes_eq}
use Rattle.std.proofs.lemmas.Bool.{cases_Bool}
use Rattle.std.proofs.lemmas.List.{reverse-append}
use Rattle.std.proofs.lemmas.List.Elements.{Contains-push_cases}
use Rattle.std.proofs.lemmas.Slice.Eq.{slice_eq-Decides, bytes_eq-Decides}
use Rattle.b2_log.specs.declared.line.LogLine.{LogLine}
use Rattle.b2_log.specs.declared.line.LogLine.TheVariants as lines
use Rattle.b2_log.specs.declared.subject.Subject.{Subject}
use Rattle.b2_log.specs.declared.subject.Subject.TheVariants as subjects
use Rattle.b2_log.specs.Finding.{subject_of, subject_eq, is_about, last_line, told_by}
use Rattle.b2_log.specs.Laws.{ToldIsThere, LastWord, OthersUnsaid}

-- ---- subjects

pub false_true : false ≡ true → ⊥
false_true e = cc

pub paths_are : (xs ys : List (List ℕ)) → pointwise bytes_eq xs ys ≡ true → xs ≡ ys
paths_are xs ys e = (slice_eq-Decides bytes_eq-Decides xs ys (pointwise bytes_eq xs ys) refl).0 e

paths_self : (xs : List (List ℕ)) → pointwise bytes_eq xs xs ≡ true
paths_self xs = (slice_eq-Decides bytes_eq-Decides xs xs (pointwise bytes_eq xs xs) refl).1 refl

pub path_is : (p q : List ℕ) → bytes_eq p q ≡ true → p ≡ q
path_is p q e = (bytes_eq-Decides p q).0 e

pub subject_is : (a b : Subject) → subject_eq a b ≡ true → a ≡ b
subject_is (subjects.Outputs outs) (subjects.Outputs others) e = ap subjects.Outputs (paths_are outs others e)
subject_is (subjects.Outputs outs) (subjects.Scanned path) e = absurd (false_true e)
subject_is (subjects.Scanned path) (subjects.Outputs outs) e = absurd (false_true e)
subject_is (subjects.Scanned path) (subjects.Scanned other) e = ap subjects.Scanned (path_is path other e)

pub subject_self : (a : Subject) → subject_eq a a ≡ true
subject_self (subjects.Outputs outs) = paths_self outs
subject_self (subjects.Scanned path) = (bytes_eq-Decides path path).1 refl

pub subject_other : (a b : Subject) → a ≢ b → subject_eq a b ≡ false
subject_other a b differ = elim (cases_Bool (subject_eq a b)) [
  | inl y ↦ absurd (differ (subject_is a b y))
  | inr n ↦ n
]

-- ---- the last line

-- one of the later lines, and else the first
abbrev pub or_first : Option LogLine → Bool → LogLine → Option LogLine
or_first (Some z) b x = Some z
or_first None b x = cond b (Some x) None

pub reverse_cons : {X : Type 0} (x : X) (xs : List X) → reverse (x ∷ xs) ≡ reverse xs ++ x ∷ []
reverse_cons x xs = reverse-append (x ∷ []) xs

find_end : (p : LogLine → Bool) (ys : List LogLine) (x : LogLine) → find p (ys ++ x ∷ []) ≡ or_first (find p ys) (p x) x
find_end p [] x = refl
find_end p (y ∷ ys) x = elim (cases_Bool (p y)) [ inl e ↦ rw e refl | inr e ↦ rw e (find_end p ys x) ]

pub last_cons : (subject : Subject) (x : LogLine) (xs : List LogLine) → last_line subject (x ∷ xs) ≡ or_first (last_line subject xs) (is_about subject x) x
last_cons subject x xs = ap (find (is_about subject)) (reverse_cons x xs) ∙ find_end (is_about subject) (reverse xs) x

pub last_pushed : (subject : Subject) (log : List LogLine) (line : LogLine) → last_line subject (log ++ line ∷ []) ≡ cond (is_about subject line) (Some line) (last_line subject log)
last_pushed subject log line = ap (find (is_about subject)) (reverse-append log (line ∷ []))

-- ---- what is told

abbrev tells : Option LogLine → Option LogLine
tells line = option_and_then told_by line

pub last_word : LastWord
last_word log line = ap tells (last_pushed (subject_of line) log line ∙ ap (λ (b : Bool). cond b (Some line) (last_line (subject_of line) log)) (subject_self (subject_of line)))

pub others_unsaid : OthersUnsaid
others_unsaid subject log line differ = ap tells (last_pushed subject log line ∙ ap (λ (b : Bool). cond b (Some line) (last_line subject log)) (subject_other (subject_of line) subject differ))

pub contains_here : {X : Type 0} (x : X) (xs : List X) → Contains (x ∷ xs) x
contains_here x xs = (zero, omega arith, refl)

pub contains_there : {X : Type 0} (x y : X) (xs : List X) → Contains xs y → Contains (x ∷ xs) y
contains_there x y xs (k, h, e) = (suc k, omega arith, e)

from_reverse : {X : Type 0} (xs : List X) (y : X) → Contains (reverse xs) y → Contains xs y
from_reverse [] y c = c
from_reverse {X} (x ∷ xs) y c = elim (Contains-push_cases (reverse xs) x y (subst (λ (l : List X). Contains l y) (reverse_cons x xs) c)) [
  | inl d ↦ contains_there x y xs (from_reverse xs y d)
  | inr e ↦ subst (λ (z : X). Contains (x ∷ xs) z) e (contains_here x xs)
]

-- what is found is an element, and passes
found_in : (p : LogLine → Bool) (xs : List LogLine) (x : LogLine) → find p xs ≡ Some x → Contains xs x × (p x ≡ true)
found_in p [] x e = absurd (let f : None ≡ Some x = e in cc)
found_in p (y ∷ ys) x e = go (p y) refl e (found_in p ys x)
  where
    go : (t : Bool) → p y ≡ t → cond t (Some y) (find p ys) ≡ Some x → (find p ys ≡ Some x → Contains ys x × (p x ≡ true)) → Contains (y ∷ ys) x × (p x ≡ true)
    go true pass f later = let same : y ≡ x = (let g : Some y ≡ Some x = f in cc) in (subst (λ (z : LogLine). Contains (y ∷ ys) z) same (contains_here y ys), ap p (sym same) ∙ pass)
    go false pass f later = let both = later f in (contains_there y x ys both.0, both.1)

-- what a line tells is the line
told_itself : (line told_line : LogLine) → told_by line ≡ Some told_line → line ≡ told_line
told_itself (lines.Record r) told_line e = let f : Some (lines.Record r) ≡ Some told_line = e in cc
told_itself (lines.Drop outs) told_line e = absurd (let f : None ≡ Some told_line = e in cc)
told_itself (lines.Scan s) told_line e = let f : Some (lines.Scan s) ≡ Some told_line = e in cc

pub told_is_there : ToldIsThere
told_is_there subject log line e = go (last_line subject log) refl e
  where
    go : (o : Option LogLine) → last_line subject log ≡ o → option_and_then told_by o ≡ Some line → Contains log line × (subject_of line ≡ subject)
    go None is f = absurd (let g : None ≡ Some line = f in cc)
    go (Some last) is f =
        let same = told_itself last line f in
        let found = found_in (is_about subject) (reverse log) last is in
        (subst (λ (l : LogLine). Contains log l) same (from_reverse log last found.0), subst (λ (l : LogLine). subject_of l ≡ subject) same (subject_is (subject_of last) subject found.1))
