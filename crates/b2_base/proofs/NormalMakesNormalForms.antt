-- The segments that `normal` keeps have the shape of a normal form, and no zero byte where the text has none.
use Rattle.std.proofs.Common.{◌≡◌, ◌≢◌, ℕ, ◌<◌, Bool, true, false, cond, eqb, suc, zero, List, [], ◌∷◌, ◌++◌, codes, replicate, reverse, fold, refl, ap, sym, ◌∙◌, subst, arith}
use Rattle.std.specs.List.{AllByRecursion, slice_split, onto_first, join_with_byte}
use Rattle.std.proofs.lemmas.Slice.Eq.{bytes_eq-Decides}
use Rattle.std.proofs.lemmas.List.{reverse-append}
use Rattle.std.proofs.lemmas.List.Elements.{All-from_recursion, recursion_from_All}
use Rattle.b2_base.specs.Bytes.{HasNoZero}
use Rattle.b2_base.specs.Segments.{segments, is_rooted, is_dropped, is_up, climb, step, kept, lead, written, normal_of}
use Rattle.b2_base.specs.Normal.{IsName, IsNormal}

-- ---- what holds of each element, by recursion

all_append : {X : Type 0} (P : X → Type 0) → (xs ys : List X) → AllByRecursion P xs → AllByRecursion P ys → AllByRecursion P (xs ++ ys)
all_append P [] ys a b = b
all_append P (x ∷ xs) ys a b = (a.0, all_append P xs ys a.1 b)

pub all_reverse : {X : Type 0} (P : X → Type 0) → (xs : List X) → AllByRecursion P xs → AllByRecursion P (reverse xs)
all_reverse P [] a = tt
all_reverse P (x ∷ xs) a = subst (AllByRecursion P) (sym (reverse-append (x ∷ []) xs)) (all_append P (reverse xs) (x ∷ []) (all_reverse P xs a.1) (a.0, tt))

all_onto_first : (P : ℕ → Type 0) (x : ℕ) (parts : List (List ℕ)) → P x → AllByRecursion (AllByRecursion P) parts → AllByRecursion (AllByRecursion P) (onto_first x parts)
all_onto_first P x [] h a = ((h, tt), tt)
all_onto_first P x (part ∷ parts) h a = ((h, a.0), a.1)

-- the parts have what the whole has
pub all_parts : (P : ℕ → Type 0) (test : ℕ → Bool) (xs : List ℕ) → AllByRecursion P xs → AllByRecursion (AllByRecursion P) (slice_split test xs)
all_parts P test [] a = (tt, tt)
all_parts P test (x ∷ xs) a =
    elim (test x) as (λ b. AllByRecursion (AllByRecursion P) (cond b ([] ∷ slice_split test xs) (onto_first x (slice_split test xs)))) [
      | true ↦ (tt, all_parts P test xs a.1)
      | false ↦ all_onto_first P x (slice_split test xs) a.0 (all_parts P test xs a.1)
    ]

all_join : (P : ℕ → Type 0) (c : ℕ) (xs : List (List ℕ)) → P c → AllByRecursion (AllByRecursion P) xs → AllByRecursion P (join_with_byte c xs)
all_join P c [] h a = tt
all_join P c (x ∷ []) h a = a.0
all_join P c (x ∷ y ∷ xs) h a = all_append P x (c ∷ join_with_byte c (y ∷ xs)) a.0 (h, all_join P c (y ∷ xs) h a.1)

-- a segment more keeps what holds of each
pub all_climb : (Q : List ℕ → Type 0) (rooted : Bool) (found : List (List ℕ)) (up : List ℕ) → Q up → AllByRecursion Q found → AllByRecursion Q (climb rooted found up)
all_climb Q true [] up h a = tt
all_climb Q false [] up h a = (h, tt)
all_climb Q rooted (top ∷ below) up h a = elim (is_up top) as (λ b. AllByRecursion Q (cond b (up ∷ top ∷ below) below)) [ true ↦ (h, a) | false ↦ a.1 ]

all_step : (Q : List ℕ → Type 0) (rooted : Bool) (found : List (List ℕ)) (s : List ℕ) → Q s → AllByRecursion Q found → AllByRecursion Q (step rooted found s)
all_step Q rooted found s h a =
    elim (is_dropped s) as (λ d. AllByRecursion Q (cond d found (cond (is_up s) (climb rooted found s) (s ∷ found)))) [
      | true ↦ a
      | false ↦ elim (is_up s) as (λ u. AllByRecursion Q (cond u (climb rooted found s) (s ∷ found))) [ true ↦ all_climb Q rooted found s h a | false ↦ (h, a) ]
    ]

all_fold : (Q : List ℕ → Type 0) (rooted : Bool) (found cuts : List (List ℕ)) → AllByRecursion Q cuts → AllByRecursion Q found → AllByRecursion Q (fold (step rooted) found cuts)
all_fold Q rooted found [] a b = b
all_fold Q rooted found (s ∷ cuts) a b = all_fold Q rooted (step rooted found s) cuts a.1 (all_step Q rooted found s a.0 b)

all_lead : (P : ℕ → Type 0) (rooted : Bool) (found : List (List ℕ)) → P 47 → P 46 → AllByRecursion P (lead rooted found)
all_lead P true found h k = (h, tt)
all_lead P false [] h k = (k, tt)
all_lead P false (x ∷ xs) h k = tt

-- the normal form has no zero byte where the text has none
pub no_zero_in_normal : (text : List ℕ) → HasNoZero text → HasNoZero (normal_of text)
no_zero_in_normal text h =
    let P : ℕ → Type 0 = λ b. 0 < b in
    let root : Bool = is_rooted text in
    let found : List (List ℕ) = kept root (segments text) in
    let each : AllByRecursion (AllByRecursion P) found = all_reverse (AllByRecursion P) _ (all_fold (AllByRecursion P) root [] (segments text) (all_parts P (λ b. eqb b 47) text (recursion_from_All P text h)) tt) in
    All-from_recursion P _ (all_append P (lead root found) (join_with_byte 47 found) (all_lead P root found (omega arith) (omega arith)) (all_join P 47 found (omega arith) each))

-- ---- the shape of a normal form

-- no slash
abbrev pub IsWhole : List ℕ → Type 0
IsWhole = AllByRecursion (λ byte. byte ≢ 47)

-- the parts between slashes have none
pub whole_parts : (xs : List ℕ) → AllByRecursion IsWhole (segments xs)
whole_parts [] = (tt, tt)
whole_parts (x ∷ xs) = go (eqb x 47) refl (whole_parts xs)
  where
    go : (b : Bool) → eqb x 47 ≡ b → AllByRecursion IsWhole (segments xs) → AllByRecursion IsWhole (cond b ([] ∷ segments xs) (onto_first x (segments xs)))
    go true e more = (tt, more)
    go false e more = all_onto_first (λ byte. byte ≢ 47) x (segments xs) (λ same. grind (arith, e, same)) more

abbrev pub two_dots : List ℕ
two_dots = codes ".."

-- names, the last first, and below them `..`, none at the root
pub record Shape (rooted : Bool) (found : List (List ℕ)) : Type 0 where
  pub names : List (List ℕ)
  pub ups : ℕ
  pub found_is : found ≡ names ++ replicate ups two_dots
  pub at_root : rooted ≡ true → ups ≡ 0
  pub each : AllByRecursion IsName names

climb_shape : (rooted : Bool) (names : List (List ℕ)) (ups : ℕ) → (rooted ≡ true → ups ≡ 0) → AllByRecursion IsName names → Shape rooted (climb rooted (names ++ replicate ups two_dots) two_dots)
climb_shape true [] zero r a = record { names = []; ups = 0; found_is = refl; at_root = λ _. refl; each = tt }
climb_shape false [] zero r a = record { names = []; ups = 1; found_is = refl; at_root = λ e. cc; each = tt }
climb_shape rooted [] (suc n) r a = record { names = []; ups = suc (suc n); found_is = refl; at_root = λ e. grind (arith, r e); each = tt }
climb_shape rooted (name ∷ names) ups r a = record { names = names; ups = ups; found_is = ap (λ b. cond b (two_dots ∷ name ∷ (names ++ replicate ups two_dots)) (names ++ replicate ups two_dots)) a.0.name; at_root = r; each = a.1 }

step_shape : (rooted : Bool) (found : List (List ℕ)) (s : List ℕ) → IsWhole s → Shape rooted found → Shape rooted (step rooted found s)
step_shape rooted found s whole shape = go (is_dropped s) refl
  where
    up : (u : Bool) → is_dropped s ≡ false → is_up s ≡ u → Shape rooted (cond u (climb rooted found s) (s ∷ found))
    up true d e =
        let dots : s ≡ two_dots = (bytes_eq-Decides s two_dots).0 e in
        subst (Shape rooted) (sym (ap (λ f. climb rooted f s) shape.found_is ∙ ap (climb rooted (shape.names ++ replicate shape.ups two_dots)) dots)) (climb_shape rooted shape.names shape.ups shape.at_root shape.each)
    up false d e = record { names = s ∷ shape.names; ups = shape.ups; found_is = ap (λ f. s ∷ f) shape.found_is; at_root = shape.at_root; each = (record { shown = d; name = e; whole = whole }, shape.each) }

    go : (d : Bool) → is_dropped s ≡ d → Shape rooted (cond d found (cond (is_up s) (climb rooted found s) (s ∷ found)))
    go true e = shape
    go false e = up (is_up s) e refl

pub fold_shape : (rooted : Bool) (found cuts : List (List ℕ)) → AllByRecursion IsWhole cuts → Shape rooted found → Shape rooted (fold (step rooted) found cuts)
fold_shape rooted found [] whole shape = shape
fold_shape rooted found (s ∷ cuts) whole shape = fold_shape rooted (step rooted found s) cuts whole.1 (step_shape rooted found s whole.0 shape)

-- a replicate reads the same from both ends
pub replicate_end : {X : Type 0} (n : ℕ) (x : X) → replicate n x ++ x ∷ [] ≡ x ∷ replicate n x
replicate_end zero x = refl
replicate_end (suc n) x = ap (λ r. x ∷ r) (replicate_end n x)

pub reverse_replicate : {X : Type 0} (n : ℕ) (x : X) → reverse (replicate n x) ≡ replicate n x
reverse_replicate zero x = refl
reverse_replicate (suc n) x = reverse-append (x ∷ []) (replicate n x) ∙ ap (λ r. r ++ x ∷ []) (reverse_replicate n x) ∙ replicate_end n x

-- what `normal` makes is in normal form
pub is_normal_normal : (text : List ℕ) → IsNormal (normal_of text)
is_normal_normal text =
    let root : Bool = is_rooted text in
    let shape : Shape root (fold (step root) [] (segments text)) = fold_shape root [] (segments text) (whole_parts text) (record { names = []; ups = 0; found_is = refl; at_root = λ _. refl; each = tt }) in
    record {
      rooted = root;
      ups = shape.ups;
      names = reverse shape.names;
      text_is = ap (λ f. written root (reverse f)) shape.found_is ∙ ap (written root) (reverse-append shape.names (replicate shape.ups two_dots) ∙ ap (λ r. r ++ reverse shape.names) (reverse_replicate shape.ups two_dots));
      at_root = shape.at_root;
      each = all_reverse IsName shape.names shape.each;
    }
