-- A place for each subject finds the last line about it, changes for that subject alone, and tells what is kept.
use Rattle.std.proofs.Common.{◌≡◌, ℕ, zero, suc, ◌+◌, ◌<◌, Bool, true, false, cond, not, List, [], ◌∷◌, ◌++◌, length, get_or, take, drop, drop-cons, add-one, reverse, Option, Some, None, refl, sym, ap, subst, ◌∙◌, append_assoc, inl, inr, arith}
use Rattle.std.specs.Prelude.{MatchOption, find, option_and_then, ◌&&◌}
use Rattle.std.specs.Global.{Vec}
use Rattle.std.specs.Ordering.{nat_cmp, is_eq, eq_by_cmp}
use Rattle.std.specs.List.{list_any, AllByRecursion}
use Rattle.std.specs.Cmp.{IsEquivalence}
use Rattle.std.specs.Cmp.Lexicographic.{pointwise, slice_cmp, texts_ties, lists_ties}
use Rattle.std.specs.Str.{bytes_eq}
use Rattle.std.specs.BTreeMap.{BTreeMap, UpdatesBy, get_by}
use Rattle.std.specs.Map.{KeepsOthers, IsKeyTest, AreApart, lookup}
use Rattle.std.specs.declared.cmp.Ordering.{Ordering}
use Rattle.std.proofs.lemmas.Cmp.{nat_list_cmp_total, lists_total, eq_by_cmp_equiv}
use Rattle.std.proofs.lemmas.Bool.{cases_Bool, eqb-true, cond-true, cond-false}
use Rattle.std.proofs.lemmas.Bool.Decides.{eqb_tells}
use Rattle.std.proofs.lemmas.List.{take-append-drop, length-take, reverse-append, reverse-reverse, length-reverse, length-append, get_or_append_left, get_or-append-add}
use Rattle.std.proofs.lemmas.List.Sorted.{list_any-IsPermutation, IsPermutation-reverse}
use Rattle.b2_log.specs.declared.line.LogLine.{LogLine}
use Rattle.b2_log.specs.declared.line.LogLine.TheVariants as lines
use Rattle.b2_log.specs.declared.latest.Latest.{Latest}
use Rattle.b2_log.specs.declared.subject.Subject.{Subject}
use Rattle.b2_log.specs.declared.subject.Subject.TheVariants as subjects
use Rattle.b2_log.specs.Good.{IsProper}
use Rattle.b2_log.specs.Finding.{subject_of, subject_eq, is_about, is_drop, last_line, told_by, told, record_in, find_record, scan_in, find_scan, is_kept, kept}
use Rattle.b2_log.specs.Places.{place_of, place_in, IsIndexed, option_is, kept_at}
use Rattle.b2_log.proofs.LastLineHasLastWord.{false_true, paths_are, path_is, subject_self, reverse_cons}

-- ---- keys

-- an order of keys, and the test of equality that agrees with it
record IsKeyed {T : Type 0} (cmp : T → T → Ordering) (eq : T → T → Bool) : Type 0 where
  equiv : IsEquivalence (eq_by_cmp cmp)
  ties : (x y : T) → eq x y ≡ is_eq (cmp x y)
  are : (x y : T) → eq x y ≡ true → x ≡ y

paths_keyed : IsKeyed (slice_cmp (slice_cmp nat_cmp)) (pointwise bytes_eq)
paths_keyed = record { equiv = eq_by_cmp_equiv (lists_total nat_list_cmp_total); ties = lists_ties (slice_cmp nat_cmp) texts_ties; are = paths_are }

path_keyed : IsKeyed (slice_cmp nat_cmp) bytes_eq
path_keyed = record { equiv = eq_by_cmp_equiv nat_list_cmp_total; ties = texts_ties; are = path_is }

other_entries : {K X : Type 0} (eq : K → K → Bool) (test : K → Bool) (old new : List (K × X)) → KeepsOthers eq test old new → (other : K → Bool) → IsKeyTest eq other → AreApart test other → lookup other new ≡ lookup other old
unfolding KeepsOthers
other_entries eq test old new h = h

-- what a map has after a change at one key, which it sees as a text
map_changed : {K T : Type 0} (cmp : T → T → Ordering) (eq : T → T → Bool) (see : K → T) → IsKeyed cmp eq → (k : T) (m n : BTreeMap K ℕ) (w : Option ℕ)
    → UpdatesBy (λ (x : K) (y : K). cmp (see x) (see y)) (λ (key : K). cmp k (see key)) m n w → (other : T) → get_by (λ (key : K). cmp other (see key)) n ≡ cond (eq k other) w (get_by (λ (key : K). cmp other (see key)) m)
map_changed {K} {T} cmp eq see keyed k m n w h other = elim (cases_Bool (eq k other)) [
  | inl y ↦ subst (λ (o : T). get_by (λ (key : K). cmp o (see key)) n ≡ w) (keyed.are k other y) h.1 ∙ sym (cond-true (eq k other) w (get_by (λ (key : K). cmp other (see key)) m) y)
  | inr apart_is ↦ other_entries _ _ _ _ h.3 (λ (key : K). is_eq (cmp other (see key))) (λ x y. keyed.equiv.congr other (see x) (see y)) (λ x. apart (see x) apart_is) ∙ sym (cond-false (eq k other) w (get_by (λ (key : K). cmp other (see key)) m) apart_is)
]
  where
    apart : (x : T) → eq k other ≡ false → is_eq (cmp k x) ≡ true → is_eq (cmp other x) ≡ false
    apart x differ same = keyed.equiv.symm other x ∙ sym (keyed.equiv.congr k x other same) ∙ sym (keyed.ties k other) ∙ differ

-- a place for a list of outputs
pub steps_changed : (outs : List (List ℕ)) (old new : Latest) (w : Option ℕ) → new.scans ≡ old.scans → UpdatesBy (λ (x : Vec (List ℕ)) (y : Vec (List ℕ)). slice_cmp (slice_cmp nat_cmp) x.items y.items) (λ (key : Vec (List ℕ)). slice_cmp (slice_cmp nat_cmp) outs key.items) old.steps new.steps w
    → (other : Subject) → place_in new other ≡ cond (subject_eq (subjects.Outputs outs) other) w (place_in old other)
steps_changed outs old new w same h (subjects.Outputs others) = map_changed (slice_cmp (slice_cmp nat_cmp)) (pointwise bytes_eq) (λ (key : Vec (List ℕ)). key.items) paths_keyed outs old.steps new.steps w h others
steps_changed outs old new w same h (subjects.Scanned path) = ap (λ (m : BTreeMap (List ℕ) ℕ). get_by (λ (key : List ℕ). slice_cmp nat_cmp path key) m) same

-- a place for a path that was scanned
pub scans_changed : (path : List ℕ) (old new : Latest) (w : Option ℕ) → new.steps ≡ old.steps → UpdatesBy (slice_cmp nat_cmp) (λ (key : List ℕ). slice_cmp nat_cmp path key) old.scans new.scans w
    → (other : Subject) → place_in new other ≡ cond (subject_eq (subjects.Scanned path) other) w (place_in old other)
scans_changed path old new w same h (subjects.Outputs outs) = ap (λ (m : BTreeMap (Vec (List ℕ)) ℕ). get_by (λ (key : Vec (List ℕ)). slice_cmp (slice_cmp nat_cmp) outs key.items) m) same
scans_changed path old new w same h (subjects.Scanned other) = map_changed (slice_cmp nat_cmp) bytes_eq (λ (key : List ℕ). key) path_keyed path old.scans new.scans w h other

pub steps_put : (subject : Subject) (outs items : List (List ℕ)) (old new : Latest) (w : Option ℕ) → subject ≡ subjects.Outputs outs → items ≡ outs → new.scans ≡ old.scans
    → UpdatesBy (λ (x : Vec (List ℕ)) (y : Vec (List ℕ)). slice_cmp (slice_cmp nat_cmp) x.items y.items) (λ (key : Vec (List ℕ)). slice_cmp (slice_cmp nat_cmp) items key.items) old.steps new.steps w
    → (other : Subject) → place_in new other ≡ cond (subject_eq subject other) w (place_in old other)
steps_put subject outs items old new w is same stay h other = steps_changed items old new w stay h other ∙ ap (λ (s : Subject). cond (subject_eq s other) w (place_in old other)) (ap subjects.Outputs same ∙ sym is)

pub scans_put : (subject : Subject) (path : List ℕ) (old new : Latest) (w : Option ℕ) → subject ≡ subjects.Scanned path → new.steps ≡ old.steps → UpdatesBy (slice_cmp nat_cmp) (λ (key : List ℕ). slice_cmp nat_cmp path key) old.scans new.scans w
    → (other : Subject) → place_in new other ≡ cond (subject_eq subject other) w (place_in old other)
scans_put subject path old new w is stay h other = scans_changed path old new w stay h other ∙ ap (λ (s : Subject). cond (subject_eq s other) w (place_in old other)) (sym is)

-- ---- one more line

pub reverse_push : {X : Type 0} (xs : List X) (x : X) → reverse (xs ++ x ∷ []) ≡ x ∷ reverse xs
reverse_push xs x = reverse-append xs (x ∷ [])

-- ---- the line at a place

pub record IsAt (log : List LogLine) (k : ℕ) (line : LogLine) : Type 0 where
  pub within : k < length log
  pub here : (d : LogLine) → get_or log k d ≡ line

-- the last line about a subject stands at its place
abbrev StandsAt : Subject → List LogLine → Option ℕ → Type 0
StandsAt subject rs place = MatchOption place (find (is_about subject) rs ≡ None) (λ k. (line : LogLine) × (find (is_about subject) rs ≡ Some line) × IsAt (reverse rs) k line)

stands_at : (subject : Subject) (rs : List LogLine) → StandsAt subject rs (place_of subject rs)
stands_at subject [] = refl
stands_at subject (x ∷ rs) = elim (cases_Bool (is_about subject x)) [
  | inl y ↦ rw (y, reverse_cons x rs) (x, refl, record { within = omega (arith, length-append (reverse rs) (x ∷ []), length-reverse rs); here = λ d. at_end rs x d })
  | inr other ↦ rw other (longer (place_of subject rs) (stands_at subject rs))
]
  where
    at_end : (rs : List LogLine) (x d : LogLine) → get_or (reverse rs ++ x ∷ []) (length rs) d ≡ x
    at_end rs x d =
        let same : length rs ≡ length (reverse rs) + 0 = omega (arith, length-reverse rs) in
        rw same (get_or-append-add (reverse rs) (x ∷ []) 0 d)

    longer : (place : Option ℕ) → StandsAt subject rs place → MatchOption place (find (is_about subject) rs ≡ None) (λ k. (line : LogLine) × (find (is_about subject) rs ≡ Some line) × IsAt (reverse (x ∷ rs)) k line)
    longer None h = h
    longer (Some k) h = (h.0, h.1, record { within = rw reverse_cons (omega (arith, h.2.within, length-append (reverse rs) (x ∷ []))); here = λ d. rw reverse_cons (get_or_append_left (reverse rs) (x ∷ []) d k h.2.within ∙ h.2.here d) })

-- what is found by the places
pub found_at : (subject : Subject) (log : List LogLine) (places : Subject → Option ℕ) (k : ℕ) → IsIndexed log places → places subject ≡ Some k → (line : LogLine) × (last_line subject log ≡ Some line) × IsAt log k line
found_at subject log places k indexed e =
    let s = subst (λ (p : Option ℕ). StandsAt subject (reverse log) p) (sym (indexed.place subject) ∙ e) (stands_at subject (reverse log)) in
    (s.0, s.1, subst (λ (ls : List LogLine). IsAt ls k s.0) (reverse-reverse log) s.2)

pub untold : (subject : Subject) (log : List LogLine) (places : Subject → Option ℕ) → IsIndexed log places → places subject ≡ None → told subject log ≡ None
untold subject log places indexed e =
    let s = subst (λ (p : Option ℕ). StandsAt subject (reverse log) p) (sym (indexed.place subject) ∙ e) (stands_at subject (reverse log)) in
    ap (option_and_then told_by) s

pub told_at : (subject : Subject) (log : List LogLine) (places : Subject → Option ℕ) (k : ℕ) (x : LogLine) → IsIndexed log places → places subject ≡ Some k → x ≡ get_or log k x → told subject log ≡ told_by x
told_at subject log places k x indexed e at =
    let f = found_at subject log places k indexed e in
    ap (option_and_then told_by) f.1 ∙ ap told_by (sym (f.2.here x) ∙ sym at)

-- the record that the line at the place of these outputs is
pub record_told : (outs : List (List ℕ)) (log : List LogLine) (places : Subject → Option ℕ) (k : ℕ) (x : LogLine) → IsIndexed log places → places (subjects.Outputs outs) ≡ Some k → x ≡ get_or log k x → find_record outs log ≡ record_in x
record_told outs log places k x indexed e at = ap (option_and_then record_in) (told_at (subjects.Outputs outs) log places k x indexed e at) ∙ by_line x
  where
    by_line : (line : LogLine) → option_and_then record_in (told_by line) ≡ record_in line
    by_line (lines.Record r) = refl
    by_line (lines.Drop paths) = refl
    by_line (lines.Scan s) = refl

-- the scan that the line at the place of this path is
pub scan_told : (path : List ℕ) (stamp : ℕ) (log : List LogLine) (places : Subject → Option ℕ) (k : ℕ) (x : LogLine) → IsIndexed log places → places (subjects.Scanned path) ≡ Some k → x ≡ get_or log k x → find_scan path stamp log ≡ scan_in stamp x
scan_told path stamp log places k x indexed e at = ap (option_and_then (scan_in stamp)) (told_at (subjects.Scanned path) log places k x indexed e at) ∙ by_line x
  where
    by_line : (line : LogLine) → option_and_then (scan_in stamp) (told_by line) ≡ scan_in stamp line
    by_line (lines.Record r) = refl
    by_line (lines.Drop paths) = refl
    by_line (lines.Scan s) = refl

-- the line at a place is proper
pub proper_at : (log : List LogLine) (k : ℕ) (x : LogLine) → AllByRecursion IsProper log → k < length log → x ≡ get_or log k x → IsProper x
proper_at [] k x each lt at = absurd (omega arith)
proper_at (y ∷ ys) zero x each lt at = subst IsProper (sym at) each.0
proper_at (y ∷ ys) (suc k) x each lt at = proper_at ys k x each.1 (omega arith) at

-- ---- the last of its subject

-- a line is the last about its subject where no later one is about it
later_first : (subject : Subject) (ls : List LogLine) (line : LogLine) (ps : List LogLine) → is_about subject line ≡ true → list_any (is_about subject) ls ≡ false → place_of subject (ls ++ line ∷ ps) ≡ Some (length ps)
later_first subject [] line ps about none = rw about refl
later_first subject (x ∷ ls) line ps about none = elim (cases_Bool (is_about subject x)) [
  | inl y ↦ absurd (false_true (sym (rw y at none)))
  | inr other ↦ rw other (later_first subject ls line ps about (rw other at none))
]

-- and else a later place is found
record IsLater (found : Option ℕ) (low : ℕ) : Type 0 where
  place : ℕ
  found_is : found ≡ Some place
  above : low < place

later_found : (subject : Subject) (ls : List LogLine) (line : LogLine) (ps : List LogLine) → list_any (is_about subject) ls ≡ true → IsLater (place_of subject (ls ++ line ∷ ps)) (length ps)
later_found subject [] line ps some = absurd (false_true some)
later_found subject (x ∷ ls) line ps some = elim (cases_Bool (is_about subject x)) [
  | inl y ↦ rw y (record { place = length (ls ++ line ∷ ps); found_is = refl; above = omega (arith, length-append ls (line ∷ ps)) })
  | inr other ↦ rw other (later_found subject ls line ps (rw other at some))
]

reversed_any : (p : LogLine → Bool) (xs : List LogLine) → list_any p (reverse xs) ≡ list_any p xs
reversed_any p xs = sym (list_any-IsPermutation p xs (reverse xs) (IsPermutation-reverse xs))

abbrev option_of : ℕ → Option ℕ
option_of n = Some n

-- the lines around a place
reverse_around : (before : List LogLine) (line : LogLine) (later : List LogLine) → reverse (before ++ line ∷ later) ≡ reverse later ++ line ∷ reverse before
reverse_around before line later = reverse-append before (line ∷ later) ∙ ap (λ (w : List LogLine). w ++ reverse before) (reverse_cons line later) ∙ append_assoc (reverse later) (line ∷ []) (reverse before)

last_here : (before : List LogLine) (line : LogLine) (later : List LogLine) (places : Subject → Option ℕ) → IsIndexed (before ++ line ∷ later) places → places (subject_of line) ≡ Some (length before) → list_any (is_about (subject_of line)) later ≡ false
last_here before line later places indexed e = elim (cases_Bool (list_any (is_about (subject_of line)) later)) [
  | inl y ↦
      let l = later_found (subject_of line) (reverse later) line (reverse before) (reversed_any (is_about (subject_of line)) later ∙ y) in
      let same : Some l.place ≡ Some (length before) = sym l.found_is ∙ ap (place_of (subject_of line)) (sym (reverse_around before line later)) ∙ sym (indexed.place (subject_of line)) ∙ e in
      absurd (omega (arith, l.above, length-reverse before, some_is l.place (length before) same))
  | inr other ↦ other
]
  where
    some_is : (a b : ℕ) → option_of a ≡ option_of b → a ≡ b
    some_is a b e = cc

not_last_here : (before : List LogLine) (line : LogLine) (later : List LogLine) (places : Subject → Option ℕ) → IsIndexed (before ++ line ∷ later) places → list_any (is_about (subject_of line)) later ≡ false → places (subject_of line) ≡ Some (length before)
not_last_here before line later places indexed none =
    indexed.place (subject_of line) ∙ ap (place_of (subject_of line)) (reverse_around before line later)
    ∙ later_first (subject_of line) (reverse later) line (reverse before) (subject_self (subject_of line)) (reversed_any (is_about (subject_of line)) later ∙ none)
    ∙ ap option_of (length-reverse before)

option_some : (o : Option ℕ) (k : ℕ) → option_is o k ≡ true → o ≡ Some k
option_some None k e = cc
option_some (Some n) k e = ap option_of (eqb-true n k e)

option_self : (o : Option ℕ) (k : ℕ) → o ≡ Some k → option_is o k ≡ true
option_self o k e = rw e (elim (eqb_tells k k) [ inl y ↦ y.0 | inr other ↦ absurd (other.1 refl) ])

-- the place tells whether a later line is about the subject
last_by_place : (before : List LogLine) (line : LogLine) (later : List LogLine) (places : Subject → Option ℕ) → IsIndexed (before ++ line ∷ later) places → option_is (places (subject_of line)) (length before) ≡ not (list_any (is_about (subject_of line)) later)
last_by_place before line later places indexed = elim (cases_Bool (option_is (places (subject_of line)) (length before))) [
  | inl y ↦ y ∙ sym (ap not (last_here before line later places indexed (option_some (places (subject_of line)) (length before) y)))
  | inr f ↦ elim (cases_Bool (list_any (is_about (subject_of line)) later)) [
    | inl some ↦ f ∙ sym (ap not some)
    | inr none ↦ absurd (false_true (sym f ∙ option_self (places (subject_of line)) (length before) (not_last_here before line later places indexed none)))
  ]
]

-- what is kept of a line, by the places
pub kept_by_place : (log : List LogLine) (places : Subject → Option ℕ) (k : ℕ) (line : LogLine) → IsIndexed log places → k < length log → line ≡ get_or log k line → kept (drop k log) ≡ kept_at places k line ++ kept (drop (k + 1) log)
kept_by_place log places k line indexed lt at =
    ap kept (around ∙ ap (λ (l : LogLine). l ∷ drop (k + 1) log) (sym at)) ∙ by_test (is_kept line (drop (k + 1) log)) ∙ ap (λ (b : Bool). cond b (line ∷ []) [] ++ kept (drop (k + 1) log)) same
  where
    around : drop k log ≡ get_or log k line ∷ drop (k + 1) log
    around = rw (add-one, drop-cons log k line) refl

    whole : log ≡ take k log ++ line ∷ drop (k + 1) log
    whole = sym (take-append-drop k log) ∙ ap (λ (w : List LogLine). take k log ++ w) (around ∙ ap (λ (l : LogLine). l ∷ drop (k + 1) log) (sym at))

    first_lines : length (take k log) ≡ k
    first_lines = omega (arith, length-take k log)

    last : option_is (places (subject_of line)) k ≡ not (list_any (is_about (subject_of line)) (drop (k + 1) log))
    last = ap (λ (n : ℕ). option_is (places (subject_of line)) n) (sym first_lines) ∙ last_by_place (take k log) line (drop (k + 1) log) places (subst (λ (ls : List LogLine). IsIndexed ls places) whole indexed)

    same : is_kept line (drop (k + 1) log) ≡ (not (is_drop line) && option_is (places (subject_of line)) k)
    same = ap (λ (b : Bool). not (is_drop line) && b) (sym last)

    by_test : (b : Bool) → cond b (line ∷ kept (drop (k + 1) log)) (kept (drop (k + 1) log)) ≡ cond b (line ∷ []) [] ++ kept (drop (k + 1) log)
    by_test true = refl
    by_test false = refl
