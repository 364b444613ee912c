-- If no two spellings begin the same bytes, none do when paired, counted or remade; and when none stands first.
use Rattle.std.proofs.Common.{◌≡◌, ◌≢◌, ℕ, ◌+◌, ◌^◌, ◌<◌, ◌≤◌, Bool, true, false, List, [], ◌∷◌, ◌++◌, length, get_or, refl, sym, ap, subst, ◌∙◌, append_assoc, length-append, arith}
use Rattle.std.specs.List.{flat_map, AllByRecursion}
use Rattle.std.specs.Fmt.{decimal}
use Rattle.std.proofs.lemmas.List.{append-nil}
use Rattle.std.proofs.lemmas.List.Concat.{flat_map-append}
use Rattle.std.proofs.lemmas.Fmt.{decimal_injective}
use Rattle.b2_log.specs.Lines.{field, number, stamped, digested, mark, included, counted}
use Rattle.b2_log.specs.Good.{IsText, IsPath, IsNumber, IsStamped, IsDigest, IsDigested, IsIncluded, IsCounted}
use Rattle.b2_log.specs.Readings.{Begins, BeginsNone, HasNoMark, mark_field}
use Rattle.b2_log.proofs.FieldsHaveOneReading.{field_free}
use Rattle.b2_log.proofs.NumbersHaveOneText.{decimal_text}

-- no two spellings of what is so begin the same bytes
pub record IsFree {X : Type 0} (spell : X → List ℕ) (IsSo : X → Type 0) : Type 0 where
  pub one : (x y : X) (u v : List ℕ) → IsSo x → IsSo y → spell x ++ u ≡ spell y ++ v → (x ≡ y) × (u ≡ v)

pub field_is_free : (IsSo : List ℕ → Type 0) → IsFree field IsSo
field_is_free IsSo = record { one = λ x y u v _ _ e. field_free x y u v e }

pub number_is_free : IsFree number IsNumber
number_is_free = record {
  one = λ x y u v p q e.
      let f = field_free (decimal x) (decimal y) u v e in
      (decimal_injective x y p q f.0, f.1);
}

-- ---- the one and then the other

abbrev pub both : {X Y : Type 0} → (X → List ℕ) → (Y → List ℕ) → X × Y → List ℕ
both first then_ pair = first pair.0 ++ then_ pair.1

abbrev pub AreBoth : {X Y : Type 0} → (X → Type 0) → (Y → Type 0) → X × Y → Type 0
AreBoth P Q pair = P pair.0 × Q pair.1

pub both_is_free : {X Y : Type 0} (s : X → List ℕ) (P : X → Type 0) (t : Y → List ℕ) (Q : Y → Type 0) → IsFree s P → IsFree t Q → IsFree (both s t) (AreBoth P Q)
both_is_free {X} {Y} s P t Q free also = record {
  one = λ x y u v p q e.
      let first = free.one x.0 y.0 (t x.1 ++ u) (t y.1 ++ v) p.0 q.0 (sym (append_assoc (s x.0) (t x.1) u) ∙ e ∙ append_assoc (s y.0) (t y.1) v) in
      let second = also.one x.1 y.1 u v p.1 q.1 first.1 in
      (ap (λ (a : X). (a, x.1)) first.0 ∙ ap (λ (b : Y). (y.0, b)) second.0, second.1);
}

pub both_found : {X Y : Type 0} (s : X → List ℕ) (P : X → Type 0) (t : Y → List ℕ) (Q : Y → Type 0) (bytes : List ℕ) (x : X) (middle : List ℕ) (y : Y) (rest : List ℕ)
    → Begins s P bytes x middle → Begins t Q middle y rest → Begins (both s t) (AreBoth P Q) bytes (x, y) rest
both_found s P t Q bytes x middle y rest p q = record { so = (p.so, q.so); split = p.split ∙ ap (λ (w : List ℕ). s x ++ w) q.split ∙ sym (append_assoc (s x) (t y) rest) }

-- the first is not there
pub both_firstless : {X Y : Type 0} (s : X → List ℕ) (P : X → Type 0) (t : Y → List ℕ) (Q : Y → Type 0) (bytes : List ℕ) → BeginsNone s P bytes → BeginsNone (both s t) (AreBoth P Q) bytes
both_firstless s P t Q bytes none pair v b = none pair.0 (t pair.1 ++ v) (record { so = b.so.0; split = b.split ∙ append_assoc (s pair.0) (t pair.1) v })

-- the second is not there
pub both_secondless : {X Y : Type 0} (s : X → List ℕ) (P : X → Type 0) (t : Y → List ℕ) (Q : Y → Type 0) → IsFree s P → (bytes : List ℕ) (x : X) (middle : List ℕ) → Begins s P bytes x middle → BeginsNone t Q middle → BeginsNone (both s t) (AreBoth P Q) bytes
both_secondless s P t Q free bytes x middle p none pair v b =
    let first = free.one x pair.0 middle (t pair.1 ++ v) p.so b.so.0 (sym p.split ∙ b.split ∙ append_assoc (s pair.0) (t pair.1) v) in
    none pair.1 v (record { so = b.so.1; split = first.1 })

-- ---- the same in another form

-- y is made of an x that is so, and is spelled as x is
pub record IsMade {X Y : Type 0} (s : X → List ℕ) (P : X → Type 0) (t : Y → List ℕ) (make : X → Y) (y : Y) : Type 0 where
  pub from : X
  pub so : P from
  pub is : y ≡ make from
  pub spelled : t y ≡ s from

pub made_free : {X Y : Type 0} (s : X → List ℕ) (P : X → Type 0) (t : Y → List ℕ) (Q : Y → Type 0) (make : X → Y) → ((y : Y) → Q y → IsMade s P t make y) → IsFree s P → IsFree t Q
made_free {X} {Y} s P t Q make made free = record {
  one = λ x y u v p q e.
      let a = made x p in
      let b = made y q in
      let f = free.one a.from b.from u v a.so b.so (ap (λ (w : List ℕ). w ++ u) (sym a.spelled) ∙ e ∙ ap (λ (w : List ℕ). w ++ v) b.spelled) in
      (a.is ∙ ap make f.0 ∙ sym b.is, f.1);
}

pub made_none : {X Y : Type 0} (s : X → List ℕ) (P : X → Type 0) (t : Y → List ℕ) (Q : Y → Type 0) (make : X → Y) → ((y : Y) → Q y → IsMade s P t make y) → (bytes : List ℕ) → BeginsNone s P bytes → BeginsNone t Q bytes
made_none s P t Q make made bytes none y v b =
    let a = made y b.so in
    none a.from v (record { so = a.so; split = b.split ∙ ap (λ (w : List ℕ). w ++ v) a.spelled })

-- ---- pairs of fields

abbrev stamped_parts : List ℕ × ℕ → List ℕ
stamped_parts = both field number

stamped_made : (file : List ℕ × ℕ) → IsStamped file → IsMade stamped_parts (AreBoth IsPath IsNumber) stamped (λ x. x) file
stamped_made file p = record { from = file; so = (p.path, p.stamp); is = refl; spelled = refl }

pub stamped_is_free : IsFree stamped IsStamped
stamped_is_free = made_free stamped_parts (AreBoth IsPath IsNumber) stamped IsStamped (λ x. x) stamped_made (both_is_free field IsPath number IsNumber (field_is_free IsPath) number_is_free)

pub file_stampless : (bytes path middle : List ℕ) → Begins field IsPath bytes path middle → BeginsNone number IsNumber middle → BeginsNone stamped IsStamped bytes
file_stampless bytes path middle p none = made_none stamped_parts (AreBoth IsPath IsNumber) stamped IsStamped (λ x. x) stamped_made bytes (both_secondless field IsPath number IsNumber (field_is_free IsPath) bytes path middle p none)

abbrev digested_parts : (List ℕ × ℕ) × List ℕ → List ℕ
digested_parts = both stamped field

digested_made : (file : (List ℕ × ℕ) × List ℕ) → IsDigested file → IsMade digested_parts (AreBoth IsStamped IsDigest) digested (λ x. x) file
digested_made file p = record { from = file; so = (p.named, p.digest); is = refl; spelled = refl }

pub digested_is_free : IsFree digested IsDigested
digested_is_free = made_free digested_parts (AreBoth IsStamped IsDigest) digested IsDigested (λ x. x) digested_made (both_is_free stamped IsStamped field IsDigest stamped_is_free (field_is_free IsDigest))

pub digested_digestless : (bytes : List ℕ) (file : List ℕ × ℕ) (middle : List ℕ) → Begins stamped IsStamped bytes file middle → BeginsNone field IsDigest middle → BeginsNone digested IsDigested bytes
digested_digestless bytes file middle p none = made_none digested_parts (AreBoth IsStamped IsDigest) digested IsDigested (λ x. x) digested_made bytes (both_secondless stamped IsStamped field IsDigest stamped_is_free bytes file middle p none)

pub digested_found : (bytes : List ℕ) (file : List ℕ × ℕ) (middle digest rest : List ℕ) → Begins stamped IsStamped bytes file middle → Begins field IsDigest middle digest rest → Begins digested IsDigested bytes (file, digest) rest
digested_found bytes file middle digest rest p q =
    let b = both_found stamped IsStamped field IsDigest bytes file middle digest rest p q in
    record { so = record { named = b.so.0; digest = b.so.1 }; split = b.split }

-- ---- includes

abbrev marked : Bool → List ℕ
marked quoted = field (mark quoted)

abbrev Any : Bool → Type 0
Any quoted = Unit {0}

mark_same : (a b : Bool) → mark a ≡ mark b → a ≡ b
mark_same true true e = refl
mark_same false false e = refl
mark_same true false e = let first = ap (λ (t : List ℕ). get_or t 0 0) e in absurd (omega arith)
mark_same false true e = let first = ap (λ (t : List ℕ). get_or t 0 0) e in absurd (omega arith)

marked_is_free : IsFree marked Any
marked_is_free = record { one = λ x y u v _ _ e. let f = field_free (mark x) (mark y) u v e in (mark_same x y f.0, f.1) }

abbrev include_of : Bool × List ℕ → List ℕ × Bool
include_of pair = (pair.1, pair.0)

abbrev included_parts : Bool × List ℕ → List ℕ
included_parts = both marked field

included_made : (include : List ℕ × Bool) → IsIncluded include → IsMade included_parts (AreBoth Any IsText) included include_of include
included_made include p = record { from = (include.1, include.0); so = (tt, p); is = refl; spelled = refl }

pub included_is_free : IsFree included IsIncluded
included_is_free = made_free included_parts (AreBoth Any IsText) included IsIncluded include_of included_made (both_is_free marked Any field IsText marked_is_free (field_is_free IsText))

mark_written : (quoted : Bool) → marked quoted ≡ mark_field quoted
unfolding field
mark_written true = refl
mark_written false = refl

no_mark : (bytes : List ℕ) → HasNoMark bytes → (quoted : Bool) (rest : List ℕ) → bytes ≡ mark_field quoted ++ rest → ⊥
no_mark bytes none true = none.in_quotes
no_mark bytes none false = none.in_angles

mark_begins : (bytes : List ℕ) (quoted : Bool) (rest : List ℕ) → bytes ≡ mark_field quoted ++ rest → Begins marked Any bytes quoted rest
mark_begins bytes quoted rest e = record { so = tt; split = e ∙ ap (λ (w : List ℕ). w ++ rest) (sym (mark_written quoted)) }

pub include_markless : (bytes : List ℕ) → HasNoMark bytes → BeginsNone included IsIncluded bytes
include_markless bytes none =
    made_none included_parts (AreBoth Any IsText) included IsIncluded include_of included_made bytes
    (both_firstless marked Any field IsText bytes (λ quoted rest b. no_mark bytes none quoted rest (b.split ∙ ap (λ (w : List ℕ). w ++ rest) (mark_written quoted))))

pub include_nameless : (bytes : List ℕ) (quoted : Bool) (middle : List ℕ) → bytes ≡ mark_field quoted ++ middle → BeginsNone field IsText middle → BeginsNone included IsIncluded bytes
include_nameless bytes quoted middle e none =
    made_none included_parts (AreBoth Any IsText) included IsIncluded include_of included_made bytes
    (both_secondless marked Any field IsText marked_is_free bytes quoted middle (mark_begins bytes quoted middle e) none)

pub include_found : (bytes : List ℕ) (quoted : Bool) (middle name rest : List ℕ) → bytes ≡ mark_field quoted ++ middle → Begins field IsText middle name rest → Begins included IsIncluded bytes (name, quoted) rest
include_found bytes quoted middle name rest e p =
    let b = both_found marked Any field IsText bytes quoted middle name rest (mark_begins bytes quoted middle e) p in
    record { so = b.so.1; split = b.split }

-- ---- lists

-- lists of one length are read in one way
pub list_free : {X : Type 0} (spell : X → List ℕ) (IsSo : X → Type 0) → IsFree spell IsSo → (xs ys : List X) (u v : List ℕ) → AllByRecursion IsSo xs → AllByRecursion IsSo ys → length xs ≡ length ys
    → flat_map spell xs ++ u ≡ flat_map spell ys ++ v → (xs ≡ ys) × (u ≡ v)
list_free spell IsSo free [] [] u v p q same e = (refl, e)
list_free spell IsSo free [] (y ∷ ys) u v p q same e = absurd (omega arith)
list_free spell IsSo free (x ∷ xs) [] u v p q same e = absurd (omega arith)
list_free spell IsSo free (x ∷ xs) (y ∷ ys) u v p q same e =
    let first = free.one x y (flat_map spell xs ++ u) (flat_map spell ys ++ v) p.0 q.0 (sym (append_assoc (spell x) (flat_map spell xs) u) ∙ e ∙ append_assoc (spell y) (flat_map spell ys) v) in
    let rest = list_free spell IsSo free xs ys u v p.1 q.1 (omega arith) first.1 in
    let a : x ≡ y = first.0 in
    let b : xs ≡ ys = rest.0 in
    (cc, rest.1)

pub counted_is_free : {X : Type 0} (spell : X → List ℕ) (IsSo : X → Type 0) → IsFree spell IsSo → IsFree (counted spell) (IsCounted IsSo)
counted_is_free spell IsSo free = record {
  one = λ xs ys u v p q e.
      let first = number_is_free.one (length xs) (length ys) (flat_map spell xs ++ u) (flat_map spell ys ++ v) p.count q.count (sym (append_assoc (number (length xs)) (flat_map spell xs) u) ∙ e ∙ append_assoc (number (length ys)) (flat_map spell ys) v) in
      list_free spell IsSo free xs ys u v p.each q.each first.0 first.1;
}

-- Where nothing that is so is left, a list that begins the same bytes is no longer than the one that was read.
pub record IsWithin {X : Type 0} (spell : X → List ℕ) (xs ys : List X) : Type 0 where
  pub count : length ys ≤ length xs
  pub size : length (flat_map spell ys) ≤ length (flat_map spell xs)

pub list_within : {X : Type 0} (spell : X → List ℕ) (IsSo : X → Type 0) → IsFree spell IsSo → (xs ys : List X) (u v : List ℕ) → AllByRecursion IsSo xs → AllByRecursion IsSo ys
    → flat_map spell xs ++ u ≡ flat_map spell ys ++ v → BeginsNone spell IsSo u → IsWithin spell xs ys
list_within spell IsSo free xs [] u v p q e none = record { count = omega arith; size = omega arith }
list_within spell IsSo free [] (y ∷ ys) u v p q e none =
    absurd (none y (flat_map spell ys ++ v) (record { so = q.0; split = e ∙ append_assoc (spell y) (flat_map spell ys) v }))
list_within spell IsSo free (x ∷ xs) (y ∷ ys) u v p q e none =
    let first = free.one x y (flat_map spell xs ++ u) (flat_map spell ys ++ v) p.0 q.0 (sym (append_assoc (spell x) (flat_map spell xs) u) ∙ e ∙ append_assoc (spell y) (flat_map spell ys) v) in
    let rest = list_within spell IsSo free xs ys u v p.1 q.1 first.1 none in
    let same = ap (λ w. length (spell w)) first.0 in
    record { count = omega (arith, rest.count); size = omega (arith, rest.size, same, length-append (spell x) (flat_map spell xs), length-append (spell y) (flat_map spell ys)) }

-- the elements that were read, and what is left of the bytes
pub record ReadSo {X : Type 0} (spell : X → List ℕ) (IsSo : X → Type 0) (bytes : List ℕ) (xs : List X) (rest : List ℕ) (i : ℕ) : Type 0 where
  pub split : bytes ≡ flat_map spell xs ++ rest
  pub each : AllByRecursion IsSo xs
  pub count : length xs ≡ i

pub read_more : {X : Type 0} (spell : X → List ℕ) (IsSo : X → Type 0) (bytes : List ℕ) (xs : List X) (rest : List ℕ) (i : ℕ) (x : X) (after : List ℕ) → ReadSo spell IsSo bytes xs rest i → Begins spell IsSo rest x after → ReadSo spell IsSo bytes (xs ++ x ∷ []) after (i + 1)
read_more {X} spell IsSo bytes xs rest i x after r b = record {
  split = r.split ∙ ap (λ (w : List ℕ). flat_map spell xs ++ w) b.split ∙ sym (append_assoc (flat_map spell xs) (spell x) after) ∙ ap (λ (w : List ℕ). w ++ after) (sym (flat_map-append spell xs (x ∷ []) ∙ ap (λ (w : List ℕ). flat_map spell xs ++ w) (append-nil (spell x))));
  each = push xs r.each;
  count = omega (arith, r.count, length-append xs (x ∷ []));
}
  where
    push : (ys : List X) → AllByRecursion IsSo ys → AllByRecursion IsSo (ys ++ x ∷ [])
    push [] each = (b.so, tt)
    push (y ∷ ys) each = (each.0, push ys each.1)

-- the same of a list that is longer by one
pub read_pushed : {X : Type 0} (spell : X → List ℕ) (IsSo : X → Type 0) (bytes : List ℕ) (xs more : List X) (rest : List ℕ) (i : ℕ) (x : X) (after : List ℕ) → ReadSo spell IsSo bytes xs rest i → Begins spell IsSo rest x after → more ≡ xs ++ x ∷ [] → ReadSo spell IsSo bytes more after (i + 1)
read_pushed {X} spell IsSo bytes xs more rest i x after r b e = subst (λ (ys : List X). ReadSo spell IsSo bytes ys after (i + 1)) (sym e) (read_more spell IsSo bytes xs rest i x after r b)

-- there are too few
pub list_ends : {X : Type 0} (spell : X → List ℕ) (IsSo : X → Type 0) → IsFree spell IsSo → (bytes start : List ℕ) (n : ℕ) (xs : List X) (rest : List ℕ) (i : ℕ) → Begins number IsNumber bytes n start → ReadSo spell IsSo start xs rest i → i < n → BeginsNone spell IsSo rest
    → BeginsNone (counted spell) (IsCounted IsSo) bytes
list_ends spell IsSo free bytes start n xs rest i b r lt none ys v c =
    let first = number_is_free.one n (length ys) start (flat_map spell ys ++ v) b.so c.so.count (sym b.split ∙ c.split ∙ append_assoc (number (length ys)) (flat_map spell ys) v) in
    let within = list_within spell IsSo free xs ys rest v r.each c.so.each (sym r.split ∙ first.1) none in
    let same : n ≡ length ys = first.0 in
    let long : length xs ≡ i = r.count in
    omega (arith, within.count)

-- ---- fields

-- another field stands first, and it is not so
pub field_refused : (IsSo : List ℕ → Type 0) (bytes text rest : List ℕ) → bytes ≡ field text ++ rest → ¬ IsSo text → BeginsNone field IsSo bytes
field_refused IsSo bytes text rest e not_so x v b = not_so (subst IsSo (sym (field_free text x rest v (sym e ∙ b.split)).0) b.so)

-- a text stands first, and it is no number's
pub number_refused : (bytes text rest : List ℕ) → bytes ≡ field text ++ rest → ((n : ℕ) → n < 2 ^ 64 → text ≢ decimal n) → BeginsNone number IsNumber bytes
number_refused bytes text rest e not_so n v b = not_so n b.so (field_free text (decimal n) rest v (sym e ∙ b.split)).0

-- no text stands first
pub number_untold : (bytes : List ℕ) → BeginsNone field IsText bytes → BeginsNone number IsNumber bytes
number_untold bytes none n v b = none (decimal n) v (record { so = decimal_text n b.so; split = b.split })
