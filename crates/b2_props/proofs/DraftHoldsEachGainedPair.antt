-- A draft that is given a pair, or one list after another, has their values and their free pairs; for loops over pairs.
use Rattle.std.proofs.Common.{◌≡◌, ℕ, Bool, true, false, cond, ◌||◌, ◌&&◌, List, [], ◌∷◌, ◌++◌, Option, Some, None, reverse, is_some, take, get_or, length, ◌+◌, ◌<◌, refl, subst, sym, ◌∙◌, ap, ap₂, append_assoc}
use Rattle.std.specs.List.{list_any, filter_map, slice_get}
use Rattle.std.specs.Option.{option_or, option_copied, option_to_list}
use Rattle.std.specs.Borrow.{Bor}
use Rattle.std.specs.Ordering.{nat_cmp, is_eq, ordering_then}
use Rattle.std.specs.Cmp.Lexicographic.{slice_cmp}
use Rattle.std.specs.declared.cmp.Ordering.{Ordering}
use Rattle.std.specs.declared.cmp.Ordering.TheVariants.{Less, Equal, Greater}
use Rattle.std.specs.Str.{bytes_eq}
use Rattle.std.specs.BTreeSet.{contains}
use Rattle.std.specs.FinMap.{get}
use Rattle.std.proofs.lemmas.Map.Text.{is_eq-slice_cmp}
use Rattle.std.proofs.lemmas.List.{append-nil, reverse-append, take_more}
use Rattle.std.proofs.lemmas.List.Concat.{flat_map-append}
use Rattle.std.proofs.lemmas.Option.{slice_get_within, get_or_from_slice_get}
use Rattle.std.proofs.lemmas.List.Elements.{filter-append, filter_map-append}
use Rattle.std.proofs.lemmas.List.Folds.{list_any-append}
use Rattle.b2_features.specs.declared.attribute.Attribute.TheVariants.{Free}
use Rattle.b2_features.specs.Table.{DeclaredFeature}
use Rattle.b2_features.specs.Faults.{is_with}
use Rattle.b2_features.proofs.NewValuesKeepAllApart.{get_put}
use Rattle.b2_props.specs.declared.draft.Draft.{Draft}
use Rattle.b2_props.specs.Sets.{Pair, same, value_of, firsts, free_of}
use Rattle.b2_props.specs.Refinement.{parts_in, components, default_pair, defaults}
use Rattle.b2_props.specs.Holding.{Gains, Takes, HasOneMore, HasValue, pair_cmp}
use Rattle.b2_props.proofs.RepeatedPairsAddNothing.{value_of-append, option_or-none, option_or-assoc, text_is, same_sym, firsts_push}

-- two pairs tie where they are one
pub pair_ties : (p q : Pair) → is_eq (pair_cmp p q) ≡ same p q
pair_ties p q = go (slice_cmp nat_cmp p.0 q.0) (is_eq-slice_cmp p.0 q.0)
  where
    go : (o : Ordering) → is_eq o ≡ bytes_eq p.0 q.0 → is_eq (ordering_then o (slice_cmp nat_cmp p.1 q.1)) ≡ same p q
    go Less e = ap (λ b. b && bytes_eq p.1 q.1) e
    go Equal e = is_eq-slice_cmp p.1 q.1 ∙ ap (λ b. b && bytes_eq p.1 q.1) e
    go Greater e = ap (λ b. b && bytes_eq p.1 q.1) e

-- ---- one pair more

free_push : (table : List DeclaredFeature) (pairs : List Pair) (p : Pair) (b : Bool) → is_with Free table p.0 ≡ b → free_of table (pairs ++ p ∷ []) ≡ cond b (free_of table pairs ++ p ∷ []) (free_of table pairs)
free_push table pairs p true e = filter-append (λ q. is_with Free table q.0) pairs (p ∷ []) ∙ ap (λ c. free_of table pairs ++ cond c (p ∷ []) []) e
free_push table pairs p false e = filter-append (λ q. is_with Free table q.0) pairs (p ∷ []) ∙ ap (λ c. free_of table pairs ++ cond c (p ∷ []) []) e ∙ append-nil (free_of table pairs)

-- a free pair says nothing of a feature that is not free
other_feature : (table : List DeclaredFeature) (p : Pair) (q : List ℕ) → is_with Free table p.0 ≡ true → is_with Free table q ≡ false → value_of (p ∷ []) q ≡ None
other_feature table p q free not_free = go (bytes_eq q p.0) refl
  where
    go : (b : Bool) → bytes_eq q p.0 ≡ b → cond b (Some p.1) None ≡ None
    go true e = let here : is_with Free table p.0 ≡ false = ap (is_with Free table) (sym (text_is q p.0 e)) ∙ not_free in cc
    go false e = refl

known_more : (p q : Pair) (ys : List Pair) (b : Bool) → same p q ≡ b → cond b true (list_any (same q) ys) ≡ list_any (same q) (ys ++ p ∷ [])
known_more p q ys b e = go b (list_any (same q) ys) e ∙ sym (list_any-append (same q) ys (p ∷ []))
  where
    go : (b c : Bool) → same p q ≡ b → cond b true c ≡ (c || (same q p || false))
    go true true e = refl
    go true false e = sym (ap (λ t. t || false) (same_sym q p ∙ e))
    go false true e = refl
    go false false e = sym (ap (λ t. t || false) (same_sym q p ∙ e))

-- the free pairs after one more
module _ (table : List DeclaredFeature) (pairs : List Pair) (p : Pair) (old new : Draft) where
  free_more : is_with Free table p.0 ≡ true → HasOneMore p old new → old.free.items ≡ firsts (free_of table pairs) → ((q : Pair) → contains pair_cmp old.known q ≡ list_any (same q) (free_of table pairs)) → new.free.items ≡ firsts (free_of table (pairs ++ p ∷ []))
  free_more free more was known =
      more.free ∙ ap₂ (λ c zs. cond c zs (zs ++ p ∷ [])) (known p) was ∙ sym (firsts_push (free_of table pairs) p) ∙ sym (ap firsts (free_push table pairs p true free))

  known_after : is_with Free table p.0 ≡ true → HasOneMore p old new → ((q : Pair) → contains pair_cmp old.known q ≡ list_any (same q) (free_of table pairs)) → (q : Pair) → contains pair_cmp new.known q ≡ list_any (same q) (free_of table (pairs ++ p ∷ []))
  known_after free more known q =
      more.known q ∙ ap (cond (same p q) true) (known q) ∙ known_more p q (free_of table pairs) (same p q) refl ∙ sym (ap (list_any (same q)) (free_push table pairs p true free))

pub gain_free : (table : List DeclaredFeature) (p : Pair) (old new : Draft) → is_with Free table p.0 ≡ true → HasOneMore p old new → Gains table (p ∷ []) old new
gain_free table p old new free more = record {
  holding = λ had pairs holds. record {
    values = λ q not_free. ap (λ m. get m q) more.values ∙ holds.values q not_free ∙ sym (ap (option_or (had q)) (other_feature table p q free not_free) ∙ option_or-none (had q));
    free = free_more table pairs p old new free more holds.free holds.known;
    known = known_after table pairs p old new free more holds.known;
  };
}

pub take_free : (table : List DeclaredFeature) (p : Pair) (old new : Draft) → is_with Free table p.0 ≡ true → HasOneMore p old new → Takes table (p ∷ []) old new
take_free table p old new free more = record {
  holding = λ had pairs holds. record {
    values = λ q not_free. ap (λ m. get m q) more.values ∙ holds.values q not_free ∙ sym (ap (λ o. option_or o (had q)) (other_feature table p q free not_free));
    free = free_more table pairs p old new free more holds.free holds.known;
    known = known_after table pairs p old new free more holds.known;
  };
}

-- a value where there was none
pub gain_value : (table : List DeclaredFeature) (p : Pair) (old new : Draft) → is_with Free table p.0 ≡ false → get old.values p.0 ≡ None → HasValue p old new → Gains table (p ∷ []) old new
gain_value table p old new not_free none set = record {
  holding = λ had pairs holds. record {
    values = λ q here. ap (λ m. get m q) set.values ∙ get_put old.values p.0 p.1 q ∙ go q (bytes_eq q p.0) refl ∙ ap (λ o. option_or o (value_of (p ∷ []) q)) (holds.values q here);
    free = ap (λ v. v.items) set.free ∙ holds.free ∙ sym (ap firsts (free_push table pairs p false not_free));
    known = λ q. ap (λ s. contains pair_cmp s q) set.known ∙ holds.known q ∙ sym (ap (list_any (same q)) (free_push table pairs p false not_free));
  };
}
  where
    go : (q : List ℕ) (b : Bool) → bytes_eq q p.0 ≡ b → cond b (Some p.1) (get old.values q) ≡ option_or (get old.values q) (cond b (Some p.1) None)
    go q true e = sym (ap (λ o. option_or o (Some p.1)) (ap (get old.values) (text_is q p.0 e) ∙ none))
    go q false e = sym (option_or-none (get old.values q))

-- a value that is there stays
pub gain_nothing : (table : List DeclaredFeature) (p : Pair) (d : Draft) → is_with Free table p.0 ≡ false → is_some (get d.values p.0) ≡ true → Gains table (p ∷ []) d d
gain_nothing table p d not_free there = record {
  holding = λ had pairs holds. record {
    values = λ q here. holds.values q here ∙ sym (go q (had q) (bytes_eq q p.0) refl (sym (holds.values q here)));
    free = holds.free ∙ sym (ap firsts (free_push table pairs p false not_free));
    known = λ q. holds.known q ∙ sym (ap (list_any (same q)) (free_push table pairs p false not_free));
  };
}
  where
    go : (q : List ℕ) (o : Option (List ℕ)) (b : Bool) → bytes_eq q p.0 ≡ b → o ≡ get d.values q → option_or o (cond b (Some p.1) None) ≡ o
    go q o false e f = option_or-none o
    go q (Some x) true e f = refl
    go q None true e f = let bad : false ≡ true = ap is_some (f ∙ ap (get d.values) (text_is q p.0 e)) ∙ there in cc

pub take_value : (table : List DeclaredFeature) (p : Pair) (old new : Draft) → is_with Free table p.0 ≡ false → HasValue p old new → Takes table (p ∷ []) old new
take_value table p old new not_free set = record {
  holding = λ had pairs holds. record {
    values = λ q here. ap (λ m. get m q) set.values ∙ get_put old.values p.0 p.1 q ∙ go (bytes_eq q p.0) (get old.values q) (had q) (holds.values q here);
    free = ap (λ v. v.items) set.free ∙ holds.free ∙ sym (ap firsts (free_push table pairs p false not_free));
    known = λ q. ap (λ s. contains pair_cmp s q) set.known ∙ holds.known q ∙ sym (ap (list_any (same q)) (free_push table pairs p false not_free));
  };
}
  where
    go : (b : Bool) (o had : Option (List ℕ)) → o ≡ had → cond b (Some p.1) o ≡ option_or (cond b (Some p.1) None) had
    go true o had e = refl
    go false o had e = e

-- ---- one list after another

pub gains_more : (table : List DeclaredFeature) (a b : List Pair) (d e f : Draft) → Gains table a d e → Gains table b e f → Gains table (a ++ b) d f
gains_more table a b d e f first second = record {
  holding = λ had pairs holds.
      let after = second.holding _ _ (first.holding had pairs holds) in
      record {
        values = λ q here. after.values q here ∙ option_or-assoc (had q) (value_of a q) (value_of b q) ∙ sym (ap (option_or (had q)) (value_of-append a b q));
        free = after.free ∙ ap (λ ps. firsts (free_of table ps)) (append_assoc pairs a b);
        known = λ q. after.known q ∙ ap (λ ps. list_any (same q) (free_of table ps)) (append_assoc pairs a b);
      };
}

pub takes_more : (table : List DeclaredFeature) (a b : List Pair) (d e f : Draft) → Takes table a d e → Takes table b e f → Takes table (a ++ b) d f
takes_more table a b d e f first second = record {
  holding = λ had pairs holds.
      let after = second.holding _ _ (first.holding had pairs holds) in
      record {
        values = λ q here.
            after.values q here ∙ sym (option_or-assoc (value_of (reverse b) q) (value_of (reverse a) q) (had q))
            ∙ ap (λ o. option_or o (had q)) (sym (ap (λ ps. value_of ps q) (reverse-append a b) ∙ value_of-append (reverse b) (reverse a) q));
        free = after.free ∙ ap (λ ps. firsts (free_of table ps)) (append_assoc pairs a b);
        known = λ q. after.known q ∙ ap (λ ps. list_any (same q) (free_of table ps)) (append_assoc pairs a b);
      };
}

-- ---- the next element of a list

-- what a look-up found is there
pub found_there : (r : Option (Bor (List ℕ))) (o : Option (List ℕ)) → option_copied r ≡ o → is_some r ≡ true → is_some o ≡ true
found_there None o e some = cc
found_there (Some b) o e some = sym (ap is_some e)

pub next_take : {X : Type 0} (xs : List X) (i : ℕ) (x : X) → i < length xs → x ≡ get_or xs i x → take (i + 1) xs ≡ take i xs ++ x ∷ []
next_take xs i x within is = take_more xs i x within ∙ ap (λ y. take i xs ++ y ∷ []) (sym is)

pub next_at : {X : Type 0} (xs : List X) (i : ℕ) (x : X) → slice_get xs i ≡ Some x → take (i + 1) xs ≡ take i xs ++ x ∷ []
next_at xs i x at = next_take xs i x (slice_get_within xs i x at) (sym (get_or_from_slice_get xs i x x at))

pub gains_next : (table : List DeclaredFeature) (xs : List Pair) (i : ℕ) (x : Pair) (d e f : Draft) → i < length xs → x ≡ get_or xs i x → Gains table (take i xs) d e → Gains table (x ∷ []) e f → Gains table (take (i + 1) xs) d f
gains_next table xs i x d e f within is first second = subst (λ ps. Gains table ps d f) (sym (next_take xs i x within is)) (gains_more table (take i xs) (x ∷ []) d e f first second)

pub takes_next : (table : List DeclaredFeature) (xs : List Pair) (i : ℕ) (x : Pair) (d e f : Draft) → i < length xs → x ≡ get_or xs i x → Takes table (take i xs) d e → Takes table (x ∷ []) e f → Takes table (take (i + 1) xs) d f
takes_next table xs i x d e f within is first second = subst (λ ps. Takes table ps d f) (sym (next_take xs i x within is)) (takes_more table (take i xs) (x ∷ []) d e f first second)

pub components_next : (table : List DeclaredFeature) (xs : List Pair) (i : ℕ) (x : Pair) → i < length xs → x ≡ get_or xs i x → components table (take (i + 1) xs) ≡ components table (take i xs) ++ parts_in table x
components_next table xs i x within is =
    ap (components table) (next_take xs i x within is) ∙ flat_map-append (parts_in table) (take i xs) (x ∷ [])
    ∙ ap (λ ps. components table (take i xs) ++ ps) (append-nil (parts_in table x))

pub gains_components : (table : List DeclaredFeature) (xs : List Pair) (i : ℕ) (x : Pair) (d e f : Draft) → i < length xs → x ≡ get_or xs i x → Gains table (components table (take i xs)) d e → Gains table (parts_in table x) e f → Gains table (components table (take (i + 1) xs)) d f
gains_components table xs i x d e f within is first second = subst (λ ps. Gains table ps d f) (sym (components_next table xs i x within is)) (gains_more table (components table (take i xs)) (parts_in table x) d e f first second)

one_option : {X Y : Type 0} (h : X → Option Y) (x : X) (o : Option Y) → h x ≡ o → filter_map h (x ∷ []) ≡ option_to_list o
one_option h x None e = ap (λ o. Rattle.std.specs.List.cons_option o []) e
one_option h x (Some y) e = ap (λ o. Rattle.std.specs.List.cons_option o []) e

-- one more element of a list of optional values
pub options_next : {X Y : Type 0} (h : X → Option Y) (xs : List X) (i : ℕ) (x : X) → slice_get xs i ≡ Some x → filter_map h (take (i + 1) xs) ≡ filter_map h (take i xs) ++ option_to_list (h x)
options_next h xs i x at = ap (filter_map h) (next_at xs i x at) ∙ filter_map-append h (take i xs) (x ∷ []) ∙ ap (λ ys. filter_map h (take i xs) ++ ys) (one_option h x (h x) refl)

pub gains_default : (table : List DeclaredFeature) (i : ℕ) (x : DeclaredFeature) (d e f : Draft) → slice_get table i ≡ Some x → Gains table (defaults (take i table)) d e → Gains table (option_to_list (default_pair x)) e f → Gains table (defaults (take (i + 1) table)) d f
gains_default table i x d e f at first second = subst (λ ps. Gains table ps d f) (sym (options_next default_pair table i x at)) (gains_more table (defaults (take i table)) (option_to_list (default_pair x)) d e f first second)
