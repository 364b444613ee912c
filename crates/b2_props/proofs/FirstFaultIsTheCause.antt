-- The first element with a fault tells the fault of a list; and how words are cut into parts without zero bytes.
use Rattle.std.proofs.Common.{◌≡◌, ◌≢◌, ℕ, zero, suc, ◌+◌, ◌<◌, Bool, true, false, cond, ◌&&◌, ◌||◌, List, [], ◌∷◌, ◌++◌, Option, Some, None, map, take, get_or, length, eqb, refl, sym, ◌∙◌, ap, ap₂, subst, arith, lit<}
use Rattle.std.specs.List.{AllByRecursion, All, AllWithin, HoldsAt, find, list_any, list_all, filter_map, before_first, after_first, cons_option}
use Rattle.std.specs.Bool.{MatchBool}
use Rattle.std.specs.Option.{option_or, option_map, option_to_list, MatchOption}
use Rattle.std.specs.Borrow.{Bor}
use Rattle.std.specs.Str.{bytes_eq}
use Rattle.std.proofs.lemmas.Bool.Decides.{Decides-eqb}
use Rattle.std.proofs.lemmas.Str.Pattern.{IsSplitOnceResult, split_once_first, split_parts}
use Rattle.std.proofs.lemmas.List.{map-append}
use Rattle.std.proofs.lemmas.List.Elements.{All-from_recursion, recursion_from_All, filter_map-append}
use Rattle.std.proofs.lemmas.List.Folds.{list_all_at}
use Rattle.b2_base.specs.Bytes.{HasNoZero}
use Rattle.b2_base.proofs.NormalMakesNormalForms.{all_parts}
use Rattle.b2_features.specs.Table.{DeclaredFeature, is_implicit_in, feature_of, implicit_of}
use Rattle.b2_props.specs.declared.request_fault.RequestFault.{RequestFault}
use Rattle.b2_props.specs.declared.request_fault.RequestFault.TheVariants.{UnknownWord, UnknownValue, Conflict, OutOfMemory}
use Rattle.b2_props.specs.Sets.{Pair}
use Rattle.b2_props.specs.Words.{cut, first_of, is_equals, IsBy}
use Rattle.b2_props.specs.Words as words
use Rattle.b2_props.proofs.RepeatedPairsAddNothing.{text_is, text_itself, option_or-assoc, option_or-none}
use Rattle.b2_props.proofs.DraftHoldsEachGainedPair.{next_take}

-- ---- parts without a zero byte

-- each part of a text without a zero byte has none
pub parts_no_zero : (sign : ℕ) (text : List ℕ) → HasNoZero text → All HasNoZero (cut sign text)
parts_no_zero sign text h = All-from_recursion HasNoZero (cut sign text) (each (cut sign text) (all_parts (λ byte. 0 < byte) (λ b. eqb b sign) text (recursion_from_All (λ byte. 0 < byte) text h)))
  where
    each : (ps : List (List ℕ)) → AllByRecursion (AllByRecursion (λ byte. 0 < byte)) ps → AllByRecursion HasNoZero ps
    each [] a = tt
    each (p ∷ ps) a = (All-from_recursion (λ byte. 0 < byte) p a.0, each ps a.1)

-- both ends of a text without a zero byte have none
ends_by_recursion : (P : ℕ → Type 0) (xs : List ℕ) (y : ℕ) (ys : List ℕ) → AllByRecursion P (xs ++ y ∷ ys) → AllByRecursion P xs × AllByRecursion P ys
ends_by_recursion P [] y ys a = (tt, a.1)
ends_by_recursion P (x ∷ xs) y ys a = let more = ends_by_recursion P xs y ys a.1 in ((a.0, more.0), more.1)

-- ---- the first `=`

no_equals : (xs : List ℕ) → ((i : ℕ) → i < length xs → get_or xs i 0 ≢ 61) → list_any is_equals xs ≡ false
no_equals [] h = refl
no_equals (x ∷ xs) h = go (eqb x 61) refl (no_equals xs (λ i l. h (suc i) (omega (arith, l))))
  where
    go : (b : Bool) → eqb x 61 ≡ b → list_any is_equals xs ≡ false → (b || list_any is_equals xs) ≡ false
    go true e more = absurd (h 0 (omega arith) ((Decides-eqb x 61).0 e))
    go false e more = more

with_equals : (xs ys : List ℕ) → list_any is_equals (xs ++ 61 ∷ ys) ≡ true
with_equals [] ys = refl
with_equals (x ∷ xs) ys = or_true (eqb x 61) (with_equals xs ys)
  where
    or_true : (a : Bool) {b : Bool} → b ≡ true → (a || b) ≡ true
    or_true true e = refl
    or_true false e = e

-- what stands before and after the first `=`
pub halves_of : (text : List ℕ) (r : Option (Bor (List ℕ) × Bor (List ℕ))) → IsSplitOnceResult 61 text r → HasNoZero text → MatchOption r (words.is_named text ≡ false) (λ parts. words.AreHalves text parts.0.now parts.1.now)
halves_of text None h zero_free = no_equals text (split_parts 61 text None h (lit< tt))
halves_of text (Some x) h zero_free =
    let cuts = split_once_first 61 text (Some x) h (lit< tt) in
    let parts = split_parts 61 text (Some x) h (lit< tt) in
    let ends = ends_by_recursion (λ byte. 0 < byte) x.0.now 61 x.1.now (subst (AllByRecursion (λ byte. 0 < byte)) parts.0 (recursion_from_All (λ byte. 0 < byte) text zero_free)) in
    record {
      named = ap (list_any is_equals) parts.0 ∙ with_equals x.0.now x.1.now;
      before_it = cuts.1;
      after_it = cuts.2;
      before_text = All-from_recursion (λ byte. 0 < byte) x.0.now ends.0;
      after_text = All-from_recursion (λ byte. 0 < byte) x.1.now ends.1;
    }

-- ---- all of a list

all_within : {X : Type 0} (p : X → Bool) (xs : List X) → AllWithin (λ x. p x ≡ true) xs 0 (length xs) → list_all p xs ≡ true
all_within p [] h = refl
all_within p (x ∷ xs) h = ap₂ ◌&&◌ (h 0 x (omega arith) (omega arith)) (all_within p xs (λ k d low high. h (suc k) d (omega arith) (omega (arith, high))))

-- what `all` answers is whether all pass
pub all_is : (p : List ℕ → Bool) (xs : List (List ℕ)) (r : Bool) → MatchBool r (AllWithin (λ x. p x ≡ true) xs 0 (length xs)) ((k : ℕ) × (k < length xs) × HoldsAt (λ x. p x ≡ false) xs k) → r ≡ list_all p xs
all_is p xs true h = sym (all_within p xs h)
all_is p xs false h = sym (list_all_at p xs h.0 [] h.1 (h.2 []))

-- ---- an implicit value

-- the feature of an implicit value is there
pub implicit_there : (table : List DeclaredFeature) (value name : List ℕ) → Some name ≡ implicit_of table value → feature_of table name ≡ None → ⊥
implicit_there [] value name e none = cc
implicit_there (g ∷ more) value name e none = go (is_implicit_in value g) (bytes_eq name g.name) refl e none (implicit_there more value name)
  where
    go : (a b : Bool) → bytes_eq name g.name ≡ b → Some name ≡ option_map (λ f. f.name) (cond a (Some g) (find (is_implicit_in value) more)) → cond b (Some g) (feature_of more name) ≡ None → (Some name ≡ implicit_of more value → feature_of more name ≡ None → ⊥) → ⊥
    go a true t e none more' = cc
    go false false t e none more' = more' e none
    go true false t e none more' = let same : name ≡ g.name = cc in let bad : true ≡ false = sym (text_itself name) ∙ ap (bytes_eq name) same ∙ t in cc

pub name_of_found : (table : List DeclaredFeature) (name : List ℕ) (f : DeclaredFeature) → feature_of table name ≡ Some f → f.name ≡ name
name_of_found [] name f e = cc
name_of_found (g ∷ more) name f e = go (bytes_eq name g.name) refl e (name_of_found more name f)
  where
    go : (b : Bool) → bytes_eq name g.name ≡ b → cond b (Some g) (feature_of more name) ≡ Some f → (feature_of more name ≡ Some f → f.name ≡ name) → f.name ≡ name
    go true t e more' = let same : g ≡ f = cc in ap (λ (h : DeclaredFeature). h.name) (sym same) ∙ sym (text_is name g.name t)
    go false t e more' = more' e

-- ---- the first fault

pub first_of-append : {X Y : Type 0} (h : X → Option Y) (xs ys : List X) → first_of h (xs ++ ys) ≡ option_or (first_of h xs) (first_of h ys)
first_of-append h [] ys = refl
first_of-append {X} {Y} h (x ∷ xs) ys = ap (option_or (h x)) (first_of-append h xs ys) ∙ sym (option_or-assoc (h x) (first_of h xs) (first_of h ys))

-- one more that gives nothing
pub first_none : {X Y : Type 0} (h : X → Option Y) (xs : List X) (x : X) → first_of h xs ≡ None → h x ≡ None → first_of h (xs ++ x ∷ []) ≡ None
first_none h xs x so_far none = first_of-append h xs (x ∷ []) ∙ ap₂ option_or so_far (option_or-none (h x) ∙ none)

pub first_some : {X Y : Type 0} (h : X → Option Y) (xs : List X) (i : ℕ) (x : X) (y : Y) → i < length xs → x ≡ get_or xs i x → first_of h (take i xs) ≡ None → h x ≡ Some y → first_of h xs ≡ Some y
first_some h [] i x y l e none some = absurd (omega (arith, l))
first_some h (z ∷ zs) zero x y l e none some = ap (λ o. option_or o (first_of h zs)) (ap h (sym e) ∙ some)
first_some {X} {Y} h (z ∷ zs) (suc i) x y l e none some = go (h z) none (first_some h zs i x y (omega (arith, l)) e)
  where
    go : (o : Option Y) → option_or o (first_of h (take i zs)) ≡ None → (first_of h (take i zs) ≡ None → h x ≡ Some y → first_of h zs ≡ Some y) → option_or o (first_of h zs) ≡ Some y
    go None n more = more n some
    go (Some w) n more = cc

-- the first that gives a fault is the cause of all
pub first_cause : {X : Type 0} (h : X → Option RequestFault) (xs : List X) (i : ℕ) (x : X) (e : RequestFault) → i < length xs → x ≡ get_or xs i x → first_of h (take i xs) ≡ None → IsBy (h x) e → IsBy (first_of h xs) e
first_cause h xs i x OutOfMemory l is none by = tt
first_cause h xs i x (UnknownWord w) l is none by = first_some h xs i x (UnknownWord w) l is none by
first_cause h xs i x (UnknownValue w) l is none by = first_some h xs i x (UnknownValue w) l is none by
first_cause h xs i x (Conflict w) l is none by = first_some h xs i x (Conflict w) l is none by

-- each element through another function
pub first_of-map : {X Y Z : Type 0} (h : Y → Option Z) (g : X → Y) (xs : List X) → first_of h (map g xs) ≡ first_of (λ x. h (g x)) xs
first_of-map h g [] = refl
first_of-map h g (x ∷ xs) = ap (option_or (h (g x))) (first_of-map h g xs)

first_of-filter_map : {X Y Z : Type 0} (h : Y → Option Z) (g : X → Option Y) (xs : List X) → first_of h (filter_map g xs) ≡ first_of (λ x. first_of h (option_to_list (g x))) xs
first_of-filter_map h g [] = refl
first_of-filter_map {X} {Y} {Z} h g (x ∷ xs) = go (g x) (first_of-filter_map h g xs)
  where
    go : (o : Option Y) → first_of h (filter_map g xs) ≡ first_of (λ z. first_of h (option_to_list (g z))) xs → first_of h (cons_option o (filter_map g xs)) ≡ option_or (first_of h (option_to_list o)) (first_of (λ z. first_of h (option_to_list (g z))) xs)
    go None more = more
    go (Some y) more = ap₂ option_or (sym (option_or-none (h y))) more

-- one more element of a list that is gone through
pub fine_next : {X Y : Type 0} (h : X → Option Y) (xs : List X) (i : ℕ) (x : X) → i < length xs → x ≡ get_or xs i x → first_of h (take i xs) ≡ None → h x ≡ None → first_of h (take (i + 1) xs) ≡ None
fine_next h xs i x l is so_far none = ap (first_of h) (next_take xs i x l is) ∙ first_none h (take i xs) x so_far none

pub map_next : {X Y : Type 0} (g : X → Y) (xs : List X) (i : ℕ) (x : X) → i < length xs → x ≡ get_or xs i x → map g (take (i + 1) xs) ≡ map g (take i xs) ++ g x ∷ []
map_next g xs i x l is = ap (map g) (next_take xs i x l is) ∙ map-append g (take i xs) (x ∷ [])

pub map_fine : {X Y Z : Type 0} (h : Y → Option Z) (g : X → Y) (xs : List X) (i : ℕ) (x : X) → i < length xs → x ≡ get_or xs i x → first_of h (map g (take i xs)) ≡ None → h (g x) ≡ None → first_of h (map g (take (i + 1) xs)) ≡ None
map_fine h g xs i x l is so_far none = ap (first_of h) (map_next g xs i x l is) ∙ first_none h (map g (take i xs)) (g x) so_far none

pub map_cause : {X Y : Type 0} (h : Y → Option RequestFault) (g : X → Y) (xs : List X) (i : ℕ) (x : X) (e : RequestFault) → i < length xs → x ≡ get_or xs i x → first_of h (map g (take i xs)) ≡ None → IsBy (h (g x)) e → IsBy (first_of h (map g xs)) e
map_cause h g xs i x e l is so_far by = subst (λ o. IsBy o e) (sym (first_of-map h g xs)) (first_cause (λ z. h (g z)) xs i x e l is (sym (first_of-map h g (take i xs)) ∙ so_far) by)

pub some_next : {X Y : Type 0} (g : X → Option Y) (xs : List X) (i : ℕ) (x : X) → i < length xs → x ≡ get_or xs i x → filter_map g (take (i + 1) xs) ≡ filter_map g (take i xs) ++ option_to_list (g x)
some_next {X} {Y} g xs i x l is = ap (filter_map g) (next_take xs i x l is) ∙ filter_map-append g (take i xs) (x ∷ []) ∙ ap (λ ys. filter_map g (take i xs) ++ ys) (one (g x))
  where
    one : (o : Option Y) → cons_option o [] ≡ option_to_list o
    one None = refl
    one (Some y) = refl

pub some_fine : {X Y Z : Type 0} (h : Y → Option Z) (g : X → Option Y) (xs : List X) (i : ℕ) (x : X) → i < length xs → x ≡ get_or xs i x → first_of h (filter_map g (take i xs)) ≡ None → first_of h (option_to_list (g x)) ≡ None → first_of h (filter_map g (take (i + 1) xs)) ≡ None
some_fine h g xs i x l is so_far none = ap (first_of h) (some_next g xs i x l is) ∙ first_of-append h (filter_map g (take i xs)) (option_to_list (g x)) ∙ ap₂ option_or so_far none

pub some_cause : {X Y : Type 0} (h : Y → Option RequestFault) (g : X → Option Y) (xs : List X) (i : ℕ) (x : X) (e : RequestFault) → i < length xs → x ≡ get_or xs i x → first_of h (filter_map g (take i xs)) ≡ None → IsBy (first_of h (option_to_list (g x))) e → IsBy (first_of h (filter_map g xs)) e
some_cause h g xs i x e l is so_far by = subst (λ o. IsBy o e) (sym (first_of-filter_map h g xs)) (first_cause (λ z. first_of h (option_to_list (g z))) xs i x e l is (sym (first_of-filter_map h g (take i xs)) ∙ so_far) by)

-- ---- a segment

-- the properties of a segment with an `=`
pub named_are : (table : List DeclaredFeature) (segment feature : List ℕ) (values : List (List ℕ)) → words.is_named segment ≡ true → feature ≡ before_first is_equals segment → values ≡ cut 44 (after_first is_equals segment) → map (λ (value : List ℕ). let p : Pair = (feature, value) in p) values ≡ words.segment_pairs table segment
named_are table segment feature values named first after =
    ap₂ (λ (f : List ℕ) (vs : List (List ℕ)). map (λ (value : List ℕ). let p : Pair = (f, value) in p) vs) first after
    ∙ sym (ap (λ b. cond b (words.named_pairs segment) (filter_map (words.implicit_pair table) (cut 44 segment))) named)
