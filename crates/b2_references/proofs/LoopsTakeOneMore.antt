-- What maps, filters, look-ups, first lists and rows of a list's beginning are with a further element; for all loops.
use Rattle.std.proofs.Common.{◌≡◌, ℕ, zero, suc, ◌+◌, ◌-◌, ◌<◌, Bool, true, false, cond, not, ◌||◌, ◌&&◌, List, [], ◌∷◌, ◌++◌, Option, Some, None, Ok, Err, is_some, map, take, drop, reverse, position, get_or, length, eqb, refl, sym, ◌∙◌, ap, ap₂, arith, append_assoc, drop-cons}
use Rattle.std.specs.Prelude.{option_to_list, Result, IfOk, OnOk}
use Rattle.std.specs.List.{filter, filter_map, flat_map, list_any, slice_get}
use Rattle.std.specs.Option.{option_map_or, option_and_then, option_or}
use Rattle.std.specs.FinMap.{FinMap, get, insert}
use Rattle.std.specs.Ordering.{nat_cmp}
use Rattle.std.specs.Cmp.Lexicographic.{slice_cmp}
use Rattle.std.specs.Str.{bytes_eq}
use Rattle.std.proofs.lemmas.List.{append-nil, map-append, reverse-append, length-take-le}
use Rattle.std.proofs.lemmas.List.Concat.{flat_map-append}
use Rattle.std.proofs.lemmas.List.Elements.{filter-append}
use Rattle.std.proofs.lemmas.List.Folds.{list_any-append}
use Rattle.std.proofs.lemmas.Option.{slice_get_read, slice_get-get_or}
use Rattle.b2_declared.specs.declared.place.Place.{Place}
use Rattle.b2_features.specs.declared.attribute.Attribute.TheVariants.{Free}
use Rattle.b2_features.specs.Table.{DeclaredFeature}
use Rattle.b2_features.specs.Faults.{is_with}
use Rattle.b2_features.proofs.ListSearchesAgree.{position-push}
use Rattle.b2_features.proofs.NewValuesKeepAllApart.{get_put}
use Rattle.b2_props.specs.Sets.{Pair, same, firsts}
use Rattle.b2_props.specs.Membership.{has}
use Rattle.b2_props.specs.Refinement.{names}
use Rattle.b2_props.specs.Requests.{product}
use Rattle.b2_props.proofs.DraftHoldsEachGainedPair.{next_take, next_at, options_next as options_at}
use Rattle.b2_props.proofs.RepeatedPairsAddNothing.{text_is, text_sym, option_or-none, firsts_push, same_sym}
use Rattle.b2_props.proofs.RowsGrowChoiceByChoice.{product-push}
use Rattle.b2_references.specs.Names.{first_list, lineage_in}
use Rattle.b2_references.specs.Requests.{choosable}
use Rattle.b2_property_texts.specs.Missing.{missing}
use Rattle.b2_references.proofs.FiltersKeepFirstNames.{number_is}

-- ---- one more element

module _ {X : Type 0} (xs : List X) (i : ℕ) (x : X) (within : i < length xs) (is : x ≡ get_or xs i x) where
  pub flat_next : {Y : Type 0} (f : X → List Y) → flat_map f (take (i + 1) xs) ≡ flat_map f (take i xs) ++ f x
  flat_next f = ap (flat_map f) (next_take xs i x within is) ∙ flat_map-append f (take i xs) (x ∷ []) ∙ ap (λ ys. flat_map f (take i xs) ++ ys) (append-nil (f x))

  pub options_next : {Y : Type 0} (f : X → Option Y) → filter_map f (take (i + 1) xs) ≡ filter_map f (take i xs) ++ option_to_list (f x)
  options_next f = options_at f xs i x (slice_get_read xs (length xs) i x refl within is)

  pub any_next : (t : X → Bool) → list_any t (take (i + 1) xs) ≡ cond (t x) true (list_any t (take i xs))
  any_next t = ap (list_any t) (next_take xs i x within is) ∙ list_any-append t (take i xs) (x ∷ []) ∙ go (list_any t (take i xs)) (t x)
    where
      go : (a b : Bool) → (a || (b || false)) ≡ cond b true a
      go true true = refl
      go true false = refl
      go false true = refl
      go false false = refl

  pub drop_next : drop i xs ≡ x ∷ drop (i + 1) xs
  drop_next = drop-cons xs i x within ∙ ap (λ (y : X). y ∷ drop (suc i) xs) (sym is) ∙ ap (λ (n : ℕ). x ∷ drop n xs) more
    where
      more : suc i ≡ i + 1
      more = omega arith

-- one more element that a number names
pub found_next : {X : Type 0} (xs : List X) (numbers : List ℕ) (i : ℕ) (x : X) (old : List X) → i < length numbers → slice_get xs (get_or numbers i 0) ≡ Some x → old ≡ filter_map (slice_get xs) (take i numbers) → old ++ x ∷ [] ≡ filter_map (slice_get xs) (take (i + 1) numbers)
found_next xs numbers i x old within at so_far =
    ap (λ ys. ys ++ x ∷ []) so_far ∙ ap (λ o. filter_map (slice_get xs) (take i numbers) ++ option_to_list o) (sym at)
    ∙ sym (options_at (slice_get xs) numbers i (get_or numbers i 0) (slice_get-get_or numbers i 0 within))

pub flat_more : {Y : Type 0} (xs : List ℕ) (i : ℕ) (f : ℕ → List Y) → i < length xs → flat_map f (take (i + 1) xs) ≡ flat_map f (take i xs) ++ f (get_or xs i 0)
flat_more xs i f within =
    ap (flat_map f) (next_at xs i (get_or xs i 0) (slice_get-get_or xs i 0 within)) ∙ flat_map-append f (take i xs) (get_or xs i 0 ∷ []) ∙ ap (λ ys. flat_map f (take i xs) ++ ys) (append-nil (f (get_or xs i 0)))

-- ---- known texts

-- one more text in a set
pub known_put : (m : FinMap (slice_cmp nat_cmp) (Unit {0})) (text other : List ℕ) → is_some (get (insert m text tt) other) ≡ cond (bytes_eq other text) true (is_some (get m other))
known_put m text other = ap is_some (get_put m text tt other) ∙ go (bytes_eq other text)
  where
    go : (b : Bool) → is_some (cond b (Some tt) (get m other)) ≡ cond b true (is_some (get m other))
    go true = refl
    go false = refl

-- ---- the first list that is not empty

pub first_is : (ps : List Pair) (more : List (List Pair)) → (length ps ≡ 0 → ⊥) → first_list (ps ∷ more) ≡ ps
first_is [] more some = absurd (some refl)
first_is (p ∷ ps) more some = refl

pub first_of_none : (ps : List Pair) (more : List (List Pair)) → length ps ≡ 0 → first_list (ps ∷ more) ≡ first_list more
first_of_none [] more e = refl
first_of_none (p ∷ ps) more e = absurd (omega (arith, e))

pub first_of_joined : (xs ys : List (List Pair)) → length (first_list xs) ≡ 0 → first_list (xs ++ ys) ≡ first_list ys
first_of_joined [] ys e = refl
first_of_joined ([] ∷ xs) ys e = first_of_joined xs ys e
first_of_joined ((p ∷ ps) ∷ xs) ys e = absurd (omega (arith, e))

pub first_of_one : (xs ys : List (List Pair)) → (length (first_list xs) ≡ 0 → ⊥) → first_list (xs ++ ys) ≡ first_list xs
first_of_one [] ys some = absurd (some refl)
first_of_one ([] ∷ xs) ys some = first_of_one xs ys some
first_of_one ((p ∷ ps) ∷ xs) ys some = refl

-- ---- the projects above a project

module _ (places : List Place) where
  above : ℕ → Option ℕ → List Place
  above turns next = option_map_or (lineage_in turns places) next []

  -- one project more
  pub above_next : (turns : ℕ) (next : Option ℕ) (p : Place) (below : List Place) → 0 < turns → Some p ≡ option_and_then (slice_get places) next
      → option_map_or (lineage_in (turns - 1) places) p.parent [] ++ reverse (below ++ p ∷ []) ≡ option_map_or (lineage_in turns places) next [] ++ reverse below
  above_next turns None p below some e = cc
  above_next zero (Some q) p below some e = absurd (omega (arith, some))
  above_next (suc turns) (Some q) p below some e =
      let less : suc turns - 1 ≡ turns = omega arith in
      ap (λ n. option_map_or (lineage_in n places) p.parent [] ++ reverse (below ++ p ∷ [])) less
      ∙ ap (λ xs. option_map_or (lineage_in turns places) p.parent [] ++ xs) (reverse-append below (p ∷ []))
      ∙ sym (append_assoc (option_map_or (lineage_in turns places) p.parent []) (p ∷ []) (reverse below))
      ∙ ap (λ o. option_map_or (λ r. option_map_or (lineage_in turns places) r.parent [] ++ r ∷ []) o [] ++ reverse below) e

  -- none is left
  pub above_ends : (turns : ℕ) (next : Option ℕ) → option_and_then (slice_get places) next ≡ None → option_map_or (lineage_in turns places) next [] ≡ []
  above_ends turns None e = refl
  above_ends zero (Some q) e = refl
  above_ends (suc turns) (Some q) e = ap (λ o. option_map_or (λ r. option_map_or (lineage_in turns places) r.parent [] ++ r ∷ []) o []) e

  pub above_none : (turns : ℕ) (next : Option ℕ) → turns ≡ 0 → option_map_or (lineage_in turns places) next [] ≡ []
  above_none zero None e = refl
  above_none zero (Some q) e = refl
  above_none (suc turns) next e = absurd (omega (arith, e))

-- ---- look-ups

-- a text that gets a place where it had none
pub put_absent : (m : FinMap (slice_cmp nat_cmp) ℕ) (text dir other : List ℕ) (place : ℕ) → None ≡ get m dir → text ≡ dir → get (insert m text place) other ≡ option_or (get m other) (cond (bytes_eq dir other) (Some place) None)
put_absent m text dir other place none e = ap (λ t. get (insert m t place) other) e ∙ get_put m dir place other ∙ ap (λ b. cond b (Some place) (get m other)) (text_sym other dir) ∙ go (bytes_eq dir other) refl
  where
    go : (b : Bool) → bytes_eq dir other ≡ b → cond b (Some place) (get m other) ≡ option_or (get m other) (cond b (Some place) None)
    go true f = ap (λ o. option_or o (Some place)) (none ∙ ap (get m) (text_is dir other f))
    go false f = sym (option_or-none (get m other))

-- a text that has a place keeps it
pub keep_present : (m : FinMap (slice_cmp nat_cmp) ℕ) (dir other : List ℕ) (place kept : ℕ) → Some kept ≡ get m dir → get m other ≡ option_or (get m other) (cond (bytes_eq dir other) (Some place) None)
keep_present m dir other place kept there = go (bytes_eq dir other) refl
  where
    go : (b : Bool) → bytes_eq dir other ≡ b → get m other ≡ option_or (get m other) (cond b (Some place) None)
    go true f = sym found ∙ ap (λ o. option_or o (Some place)) found
      where
        found : Some kept ≡ get m other
        found = there ∙ ap (get m) (text_is dir other f)
    go false f = sym (option_or-none (get m other))

-- a first project more
pub dirs_next : (places : List Place) (i : ℕ) (p : Place) (dir : List ℕ) → i < length places → p ≡ get_or places i p
    → position (λ q. bytes_eq q.dir dir) (take (i + 1) places) ≡ option_or (position (λ q. bytes_eq q.dir dir) (take i places)) (cond (bytes_eq p.dir dir) (Some i) None)
dirs_next places i p dir within is =
    ap (position (λ q. bytes_eq q.dir dir)) (next_take places i p within is) ∙ position-push (λ q. bytes_eq q.dir dir) (take i places) p
    ∙ ap (λ n. option_or (position (λ q. bytes_eq q.dir dir) (take i places)) (cond (bytes_eq p.dir dir) (Some n) None)) (length-take-le i places (omega (arith, within)))

-- the first list that has something
pub first_here : {X : Type 0} (f : X → List Pair) (xs : List X) (i : ℕ) (x : X) (ds : List Pair) (b : Bool) → i < length xs → x ≡ get_or xs i x → ds ≡ f x → b ≡ eqb (length ds) 0 → b ≡ false
    → first_list (map f (drop i xs)) ≡ first_list (map f xs) → ds ≡ first_list (map f xs)
first_here f xs i x ds b within is e test none so_far = e ∙ sym (first_is (f x) (map f (drop (i + 1) xs)) some) ∙ sym (ap (λ ys. first_list (map f ys)) (drop_next xs i x within is)) ∙ so_far
  where
    some : length (f x) ≡ 0 → ⊥
    some e0 = let h : true ≡ false = sym (ap (λ n. eqb n 0) e0) ∙ ap (λ ys. eqb (length ys) 0) (sym e) ∙ sym test ∙ none in cc

pub first_not_here : {X : Type 0} (f : X → List Pair) (xs : List X) (i : ℕ) (x : X) (ds : List Pair) (b : Bool) → i < length xs → x ≡ get_or xs i x → ds ≡ f x → b ≡ eqb (length ds) 0 → b ≡ true
    → first_list (map f (drop i xs)) ≡ first_list (map f xs) → first_list (map f (drop (i + 1) xs)) ≡ first_list (map f xs)
first_not_here f xs i x ds b within is e test none so_far = sym (first_of_none (f x) (map f (drop (i + 1) xs)) empty) ∙ sym (ap (λ ys. first_list (map f ys)) (drop_next xs i x within is)) ∙ so_far
  where
    empty : length (f x) ≡ 0
    empty = sym (ap length e) ∙ number_is (length ds) 0 (sym test ∙ none)

-- two lists one after the other
pub first_own : (xs ys : List (List Pair)) (ds : List Pair) (b : Bool) → ds ≡ first_list xs → b ≡ eqb (length ds) 0 → b ≡ false → ds ≡ first_list (xs ++ ys)
first_own xs ys ds b e test none = e ∙ sym (first_of_one xs ys some)
  where
    some : length (first_list xs) ≡ 0 → ⊥
    some e0 = let h : true ≡ false = sym (ap (λ n. eqb n 0) e0) ∙ ap (λ zs. eqb (length zs) 0) (sym e) ∙ sym test ∙ none in cc

pub first_other : (xs ys : List (List Pair)) (ds : List Pair) (b : Bool) → ds ≡ first_list xs → b ≡ eqb (length ds) 0 → b ≡ true → first_list ys ≡ first_list (xs ++ ys)
first_other xs ys ds b e test none = sym (first_of_joined xs ys (sym (ap length e) ∙ number_is (length ds) 0 (sym test ∙ none)))

-- one pair more that a set leaves open
pub choosable_next : (table : List DeclaredFeature) (set pairs : List Pair) (i : ℕ) (p : Pair) (b : Bool) (made old : List Pair) → i < length pairs → p ≡ get_or pairs i p
    → b ≡ (not (names set p.0) && not (is_with Free table p.0)) → made ≡ cond b (old ++ p ∷ []) old → old ≡ choosable table set (take i pairs) → made ≡ choosable table set (take (i + 1) pairs)
choosable_next table set pairs i p b made old within is test grown so_far = grown ∙ ap₂ (λ (t : Bool) (ys : List Pair). cond t (ys ++ p ∷ []) ys) test so_far ∙ sym (ap (choosable table set) (next_take pairs i p within is) ∙ push)
  where
    ps : List Pair
    ps = take i pairs

    free : Pair → Bool
    free q = not (is_with Free table q.0)

    go : (a c : Bool) → free p ≡ c → filter free (cond (not a) (p ∷ []) []) ≡ cond (not a && c) (p ∷ []) []
    go true c e = refl
    go false c e = ap (λ t. cond t (p ∷ []) []) e

    last : (a : Bool) → choosable table set ps ++ cond a (p ∷ []) [] ≡ cond a (choosable table set ps ++ p ∷ []) (choosable table set ps)
    last true = refl
    last false = append-nil (choosable table set ps)

    push : choosable table set (ps ++ p ∷ []) ≡ cond (not (names set p.0) && free p) (choosable table set ps ++ p ∷ []) (choosable table set ps)
    push =
        ap (filter free) (filter-append (λ q. not (names set q.0)) ps (p ∷ [])) ∙ filter-append free (missing set ps) (cond (not (names set p.0)) (p ∷ []) [])
        ∙ ap (λ ys. choosable table set ps ++ ys) (go (names set p.0) (free p) refl) ∙ last (not (names set p.0) && free p)

-- one pair more, where it did not stand before
pub firsts_next : (pairs : List Pair) (i : ℕ) (p : Pair) (b : Bool) (made old : List Pair) → i < length pairs → p ≡ get_or pairs i p → b ≡ not (has (take i pairs) p) → made ≡ cond b (old ++ p ∷ []) old → old ≡ firsts (take i pairs) → made ≡ firsts (take (i + 1) pairs)
firsts_next pairs i p b made old within is test grown so_far =
    grown ∙ ap₂ (λ (t : Bool) (ys : List Pair). cond t (ys ++ p ∷ []) ys) test so_far ∙ go (has ps p) ∙ ap (λ t. cond t (firsts ps) (firsts ps ++ p ∷ [])) (alike ps) ∙ sym (ap firsts (next_take pairs i p within is) ∙ firsts_push ps p)
  where
    ps : List Pair
    ps = take i pairs

    alike : (qs : List Pair) → has qs p ≡ list_any (same p) qs
    alike [] = refl
    alike (q ∷ qs) = ap₂ ◌||◌ (same_sym q p) (alike qs)

    go : (t : Bool) → cond (not t) (firsts ps ++ p ∷ []) (firsts ps) ≡ cond t (firsts ps) (firsts ps ++ p ∷ [])
    go true = refl
    go false = refl

pub has_next : (pairs : List Pair) (i : ℕ) (p q : Pair) (old new : Bool) → i < length pairs → p ≡ get_or pairs i p → new ≡ cond (same p q) true old → old ≡ has (take i pairs) q → new ≡ has (take (i + 1) pairs) q
has_next pairs i p q old new within is e so_far = e ∙ ap (cond (same p q) true) so_far ∙ sym (any_next pairs i p within is (λ x. same x q))

-- ---- rows

-- a row before each of the others
before_row : {X : Type 0} (row ys : List X) (rows : List (List X)) → flat_map (λ r. map (λ y. r ++ y ∷ []) ys) (map (λ r. row ++ r) rows) ≡ map (λ r. row ++ r) (flat_map (λ r. map (λ y. r ++ y ∷ []) ys) rows)
before_row row ys [] = refl
before_row {X} row ys (r ∷ rows) = ap₂ (λ (a b : List (List X)). a ++ b) (each ys) (before_row row ys rows) ∙ sym (map-append (λ s. row ++ s) (map (λ y. r ++ y ∷ []) ys) (flat_map (λ s. map (λ y. s ++ y ∷ []) ys) rows))
  where
    each : (zs : List X) → map (λ y. (row ++ r) ++ y ∷ []) zs ≡ map (λ s. row ++ s) (map (λ y. r ++ y ∷ []) zs)
    each [] = refl
    each (z ∷ zs) = ap₂ (λ (a : List X) (b : List (List X)). a ∷ b) (append_assoc row r (z ∷ [])) (each zs)

pub rows_next : {X : Type 0} (row : List X) (lists : List (List X)) (i : ℕ) (list : List X) (old new : List (List X)) → i < length lists → list ≡ get_or lists i list
    → new ≡ flat_map (λ r. map (λ y. r ++ y ∷ []) list) old → old ≡ map (λ r. row ++ r) (product (take i lists)) → new ≡ map (λ r. row ++ r) (product (take (i + 1) lists))
rows_next row lists i list old new within is e so_far =
    e ∙ ap (flat_map (λ r. map (λ y. r ++ y ∷ []) list)) so_far ∙ before_row row list (product (take i lists))
    ∙ sym (ap (λ ls. map (λ r. row ++ r) (product ls)) (next_take lists i list within is) ∙ ap (map (λ r. row ++ r)) (product-push (take i lists) list))

-- ---- outcomes

pub on_ok_both : {T E : Type 0} (r : Result T E) {P Q R : Type 0} → OnOk r P → OnOk r Q → (P → Q → R) → OnOk r R
on_ok_both (Ok x) h k f = f h k
on_ok_both (Err e) h k f = tt

pub if_ok : {T E : Type 0} (r : Result T E) {P Q : T → Type 0} → IfOk r P → ((x : T) → P x → Q x) → IfOk r Q
if_ok (Ok x) h f = f x h
if_ok (Err e) h f = tt

-- a text that is taken out and put back with more
pub put_back : (old taken new : FinMap (slice_cmp nat_cmp) (List ℕ)) (name text other value : List ℕ) → new ≡ insert taken text value → taken ≡ insert old name [] → text ≡ name → get new other ≡ cond (bytes_eq other name) (Some value) (get old other)
put_back old taken new name text other value e f g =
    ap (λ m. get m other) e ∙ ap (λ t. get (insert taken t value) other) g ∙ get_put taken name value other
    ∙ ap (cond (bytes_eq other name) (Some value)) (ap (λ m. get m other) f ∙ get_put old name [] other) ∙ go (bytes_eq other name)
  where
    go : (b : Bool) → cond b (Some value) (cond b (Some []) (get old other)) ≡ cond b (Some value) (get old other)
    go true = refl
    go false = refl

-- ---- values mapped

pub map-map : {X Y Z : Type 0} (g : Y → Z) (f : X → Y) (xs : List X) → map g (map f xs) ≡ map (λ x. g (f x)) xs
map-map g f [] = refl
map-map g f (x ∷ xs) = ap (λ ys. g (f x) ∷ ys) (map-map g f xs)

pub map-reverse : {X Y : Type 0} (f : X → Y) (xs : List X) → map f (reverse xs) ≡ reverse (map f xs)
map-reverse f [] = refl
map-reverse f (x ∷ xs) =
    ap (map f) (reverse-append (x ∷ []) xs) ∙ map-append f (reverse xs) (x ∷ []) ∙ ap (λ ys. ys ++ f x ∷ []) (map-reverse f xs) ∙ sym (reverse-append (f x ∷ []) (map f xs))
