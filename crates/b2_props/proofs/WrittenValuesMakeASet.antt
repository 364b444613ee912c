-- Values and free pairs in the order of the table are a set; filters leave one, and refining twice is as once.
use Rattle.std.proofs.Common.{◌≡◌, ℕ, Bool, true, false, cond, List, [], ◌∷◌, ◌++◌, Option, Some, None, reverse, refl, sym, ◌∙◌, ap, ap₂}
use Rattle.std.specs.List.{filter, filter_map, AllByRecursion, cons_option}
use Rattle.std.specs.Option.{option_or, option_map, option_map_or, option_and_then}
use Rattle.std.specs.Str.{bytes_eq}
use mathlib.Core.Path.{fun_ext}
use Rattle.std.proofs.lemmas.List.Elements.{filter-append}
use Rattle.b2_features.specs.declared.attribute.Attribute.{Attribute}
use Rattle.b2_features.specs.declared.attribute.Attribute.TheVariants.{Free}
use Rattle.b2_features.specs.Attributes.{has}
use Rattle.b2_features.specs.Table.{DeclaredFeature, HasDistinctNames, is_named, feature_of}
use Rattle.b2_features.specs.Faults.{is_with}
use Rattle.b2_props.specs.Sets.{Pair, value_of, firsts, free_of, pair_of, written, IsSet}
use Rattle.b2_props.specs.Refinement.{refined_by}
use Rattle.b2_props.proofs.RepeatedPairsAddNothing.{value_of-append, option_or-none, option_or-assoc, firsts_again, text_is, text_sym, text_itself, filter_twice, filter_swap, firsts-filter, firsts_twice}

-- each of some features is the one that the table has under its name
abbrev pub Stand : List DeclaredFeature → List DeclaredFeature → Type 0
Stand table fs = AllByRecursion (λ f. feature_of table f.name ≡ Some f) fs

stand_after : (f : DeclaredFeature) (table fs : List DeclaredFeature) → AllByRecursion (λ other. is_named f.name other ≡ false) fs → Stand table fs → Stand (f ∷ table) fs
stand_after f table [] apart stand = tt
stand_after f table (g ∷ more) apart stand =
    (ap (λ b. cond b (Some f) (feature_of table g.name)) (text_sym g.name f.name ∙ apart.0) ∙ stand.0, stand_after f table more apart.1 stand.1)

-- in a table with distinct names each feature is found under its name
pub all_stand : (table : List DeclaredFeature) → HasDistinctNames table → Stand table table
all_stand [] distinct = tt
all_stand (f ∷ more) distinct =
    (ap (λ b. cond b (Some f) (feature_of more f.name)) (text_itself f.name), stand_after f more more distinct.0 (all_stand more distinct.1))

-- what is said of a name is said of the feature
pub has_itself : (a : Attribute) (table : List DeclaredFeature) (f : DeclaredFeature) → feature_of table f.name ≡ Some f → is_with a table f.name ≡ has a f.attributes
has_itself a table f e = ap (λ o. option_map_or (λ g. has a g.attributes) o false) e

-- values that agree at the features that are looked at give the same pairs
pub same_found : (table fs : List DeclaredFeature) (v w : List ℕ → Option (List ℕ)) → Stand table fs → ((f : DeclaredFeature) → feature_of table f.name ≡ Some f → has Free f.attributes ≡ false → v f.name ≡ w f.name) → filter_map (pair_of v) fs ≡ filter_map (pair_of w) fs
same_found table [] v w stand agree = refl
same_found table (f ∷ more) v w stand agree = ap₂ cons_option (go (has Free f.attributes) refl) (same_found table more v w stand.1 agree)
  where
    go : (b : Bool) → has Free f.attributes ≡ b → cond {A = Option Pair} b None (option_map (λ x. (f.name, x)) (v f.name)) ≡ cond {A = Option Pair} b None (option_map (λ x. (f.name, x)) (w f.name))
    go true e = refl
    go false e = ap (option_map (λ x. (f.name, x))) (agree f stand.0 e)

pub same_pairs : (table fs : List DeclaredFeature) (v w : List ℕ → Option (List ℕ)) → Stand table fs → ((q : List ℕ) → is_with Free table q ≡ false → v q ≡ w q) → filter_map (pair_of v) fs ≡ filter_map (pair_of w) fs
same_pairs table fs v w stand agree = same_found table fs v w stand (λ f found e. agree f.name (has_itself Free table f found ∙ e))

-- ---- the two parts of a set

-- the pairs of features that are not free
pub none_free : (table fs : List DeclaredFeature) (v : List ℕ → Option (List ℕ)) → Stand table fs → free_of table (filter_map (pair_of v) fs) ≡ []
none_free table [] v stand = refl
none_free table (f ∷ more) v stand = go (has Free f.attributes) (v f.name) refl (none_free table more v stand.1)
  where
    go : (b : Bool) (o : Option (List ℕ)) → has Free f.attributes ≡ b → free_of table (filter_map (pair_of v) more) ≡ [] → free_of table (cons_option (cond {A = Option Pair} b None (option_map (λ x. (f.name, x)) o)) (filter_map (pair_of v) more)) ≡ []
    go true o e rest = rest
    go false None e rest = rest
    go false (Some x) e rest = ap (λ b. cond b ((f.name, x) ∷ free_of table (filter_map (pair_of v) more)) (free_of table (filter_map (pair_of v) more))) (has_itself Free table f stand.0 ∙ e) ∙ rest

-- free pairs give no value to a feature that is not free
pub no_free_value : (table : List DeclaredFeature) (pairs : List Pair) (q : List ℕ) → is_with Free table q ≡ false → value_of (free_of table pairs) q ≡ None
no_free_value table [] q e = refl
no_free_value table (p ∷ more) q e = go (no_free_value table more q e) (is_with Free table p.0) (bytes_eq q p.0) refl refl
  where
    go : value_of (free_of table more) q ≡ None → (b c : Bool) → is_with Free table p.0 ≡ b → bytes_eq q p.0 ≡ c → value_of (cond b (p ∷ free_of table more) (free_of table more)) q ≡ None
    go rest false c f g = rest
    go rest true false f g = ap (λ c. cond c (Some p.1) (value_of (free_of table more) q)) g ∙ rest
    go rest true true f g = let here : is_with Free table p.0 ≡ false = ap (is_with Free table) (sym (text_is q p.0 g)) ∙ e in cc

-- the value that a written list has of a feature
written_value : (fs : List DeclaredFeature) (v : List ℕ → Option (List ℕ)) (q : List ℕ) → HasDistinctNames fs → value_of (filter_map (pair_of v) fs) q ≡ option_and_then (λ f. cond (has Free f.attributes) None (v q)) (feature_of fs q)
written_value [] v q distinct = refl
written_value (f ∷ more) v q distinct = go (written_value more v q distinct.1) (bytes_eq q f.name) refl
  where
    rest : List Pair
    rest = filter_map (pair_of v) more

    none_after : q ≡ f.name → (gs : List DeclaredFeature) → AllByRecursion (λ other. is_named f.name other ≡ false) gs → feature_of gs q ≡ None
    none_after e [] apart = refl
    none_after e (g ∷ gs) apart = ap (λ b. cond b (Some g) (feature_of gs q)) (ap (λ n. bytes_eq n g.name) e ∙ apart.0) ∙ none_after e gs apart.1

    After : Type 0
    After = value_of rest q ≡ option_and_then (λ g. cond (has Free g.attributes) None (v q)) (feature_of more q)

    nothing : After → q ≡ f.name → value_of rest q ≡ None
    nothing after e = after ∙ ap (option_and_then (λ g. cond (has Free g.attributes) None (v q))) (none_after e more distinct.0)

    here : After → (b : Bool) (o : Option (List ℕ)) → bytes_eq q f.name ≡ true → v f.name ≡ o → value_of (cons_option (cond {A = Option Pair} b None (option_map (λ x. (f.name, x)) o)) rest) q ≡ cond b None o
    here after true o t e = nothing after (text_is q f.name t)
    here after false None t e = nothing after (text_is q f.name t)
    here after false (Some x) t e = ap (λ c. cond c (Some x) (value_of rest q)) t

    skip : (b : Bool) (o : Option (List ℕ)) → bytes_eq q f.name ≡ false → value_of (cons_option (cond {A = Option Pair} b None (option_map (λ x. (f.name, x)) o)) rest) q ≡ value_of rest q
    skip true o t = refl
    skip false None t = refl
    skip false (Some x) t = ap (λ c. cond c (Some x) (value_of rest q)) t

    go : After → (b : Bool) → bytes_eq q f.name ≡ b → value_of (cons_option (pair_of v f) rest) q ≡ option_and_then (λ g. cond (has Free g.attributes) None (v q)) (cond b (Some f) (feature_of more q))
    go after true t = here after (has Free f.attributes) (v f.name) t refl ∙ ap (λ n. cond (has Free f.attributes) None (v n)) (sym (text_is q f.name t))
    go after false t = skip (has Free f.attributes) (v f.name) t ∙ after

-- the value that a written list has of a feature that is not free, where its free pairs are free
pub value_written : (table : List DeclaredFeature) (v : List ℕ → Option (List ℕ)) (free : List Pair) → HasDistinctNames table → free_of table free ≡ free → (f : DeclaredFeature) → feature_of table f.name ≡ Some f → has Free f.attributes ≡ false → value_of (written table v free) f.name ≡ v f.name
value_written table v free distinct all_free f found e =
    value_of-append (filter_map (pair_of v) table) free f.name
    ∙ ap₂ option_or
    (written_value table v f.name distinct ∙ ap (option_and_then (λ g. cond (has Free g.attributes) None (v f.name))) found ∙ ap (λ b. cond b None (v f.name)) e)
    (ap (λ ps. value_of ps f.name) (sym all_free) ∙ no_free_value table free f.name (has_itself Free table f found ∙ e))
    ∙ option_or-none (v f.name)

-- the free pairs of a written list
pub free_written : (table : List DeclaredFeature) (v : List ℕ → Option (List ℕ)) (free : List Pair) → HasDistinctNames table → free_of table free ≡ free → free_of table (written table v free) ≡ free
free_written table v free distinct all_free = filter-append (λ p. is_with Free table p.0) (filter_map (pair_of v) table) free ∙ ap₂ ◌++◌ (none_free table table v (all_stand table distinct)) all_free

-- a list that is written is a set, where its free pairs are free and stand once
pub written_set : (table : List DeclaredFeature) (v : List ℕ → Option (List ℕ)) (free : List Pair) → HasDistinctNames table → free_of table free ≡ free → firsts free ≡ free → IsSet table (written table v free)
written_set table v free distinct all_free once =
    ap₂ ◌++◌ (same_found table table (value_of (written table v free)) v (all_stand table distinct) (value_written table v free distinct all_free)) (ap firsts (free_written table v free distinct all_free) ∙ once)

-- the free pairs, each once, are free and stand once
pub once_free : (table : List DeclaredFeature) (pairs : List Pair) → free_of table (firsts (free_of table pairs)) ≡ firsts (free_of table pairs)
once_free table pairs = sym (firsts-filter (λ p. is_with Free table p.0) (free_of table pairs)) ∙ ap firsts (filter_twice (λ p. is_with Free table p.0) pairs)

-- the set of some values and pairs is a set
pub made_set : (table : List DeclaredFeature) (v : List ℕ → Option (List ℕ)) (pairs : List Pair) → HasDistinctNames table → IsSet table (written table v (firsts (free_of table pairs)))
made_set table v pairs distinct = written_set table v (firsts (free_of table pairs)) distinct (once_free table pairs) (firsts_twice (free_of table pairs))

-- ---- a set of which some features are left

pub value_of-filter : (t : List ℕ → Bool) (xs : List Pair) (q : List ℕ) → value_of (filter (λ p. t p.0) xs) q ≡ cond (t q) (value_of xs q) None
value_of-filter t [] q = go (t q)
  where
    go : (b : Bool) → ◌≡◌ {A = Option (List ℕ)} None (cond b None None)
    go true = refl
    go false = refl
value_of-filter t (x ∷ xs) q = go (value_of-filter t xs q) (t x.0) (bytes_eq q x.0) (t q) refl refl refl
  where
    go : value_of (filter (λ p. t p.0) xs) q ≡ cond (t q) (value_of xs q) None → (a b d : Bool) → t x.0 ≡ a → bytes_eq q x.0 ≡ b → t q ≡ d → value_of (cond a (x ∷ filter (λ p. t p.0) xs) (filter (λ p. t p.0) xs)) q ≡ cond d (cond b (Some x.1) (value_of xs q)) None
    go more true true true e f g = ap (λ b. cond b (Some x.1) (value_of (filter (λ p. t p.0) xs) q)) f
    go more true true false e f g = let bad : false ≡ true = sym g ∙ ap t (text_is q x.0 f) ∙ e in cc
    go more true false d e f g = ap (λ b. cond b (Some x.1) (value_of (filter (λ p. t p.0) xs) q)) f ∙ more ∙ ap (λ b. cond b (value_of xs q) None) g
    go more false true true e f g = let bad : true ≡ false = sym g ∙ ap t (text_is q x.0 f) ∙ e in cc
    go more false true false e f g = more ∙ ap (λ b. cond b (value_of xs q) None) g
    go more false false d e f g = more ∙ ap (λ b. cond b (value_of xs q) None) g

filter-pairs : (t : List ℕ → Bool) (v : List ℕ → Option (List ℕ)) (fs : List DeclaredFeature) → filter (λ p. t p.0) (filter_map (pair_of v) fs) ≡ filter_map (pair_of (λ q. cond (t q) (v q) None)) fs
filter-pairs t v [] = refl
filter-pairs t v (f ∷ more) = go (has Free f.attributes) (v f.name) (t f.name) refl (filter-pairs t v more)
  where
    left : List Pair
    left = filter_map (pair_of v) more

    go : (b : Bool) (o : Option (List ℕ)) (c : Bool) → t f.name ≡ c → filter (λ p. t p.0) left ≡ filter_map (pair_of (λ q. cond (t q) (v q) None)) more
        → filter (λ p. t p.0) (cons_option (cond {A = Option Pair} b None (option_map (λ x. (f.name, x)) o)) left) ≡ cons_option (cond {A = Option Pair} b None (option_map (λ x. (f.name, x)) (cond c o None))) (filter_map (pair_of (λ q. cond (t q) (v q) None)) more)
    go true o c e rest = rest
    go false None true e rest = rest
    go false None false e rest = rest
    go false (Some x) true e rest = ap (λ b. cond {A = List Pair} b ((f.name, x) ∷ filter (λ p. t p.0) left) (filter (λ p. t p.0) left)) e ∙ ap (λ (ps : List Pair). (f.name, x) ∷ ps) rest
    go false (Some x) false e rest = ap (λ b. cond {A = List Pair} b ((f.name, x) ∷ filter (λ p. t p.0) left) (filter (λ p. t p.0) left)) e ∙ rest

-- a set stays one where a test on features leaves some
pub filter_set : (table : List DeclaredFeature) (t : List ℕ → Bool) (set : List Pair) → IsSet table set → IsSet table (filter (λ p. t p.0) set)
filter_set table t set is =
    ap₂ (λ (xs ys : List Pair). xs ++ ys)
    (ap (λ (v : List ℕ → Option (List ℕ)). filter_map (pair_of v) table) (fun_ext (value_of-filter t set)) ∙ sym (filter-pairs t (value_of set) table))
    (ap firsts (filter_swap (λ p. is_with Free table p.0) (λ p. t p.0) set) ∙ firsts-filter (λ p. t p.0) (free_of table set))
    ∙ sym (filter-append (λ p. t p.0) (filter_map (pair_of (value_of set)) table) (firsts (free_of table set)))
    ∙ ap (filter (λ p. t p.0)) is

-- ---- a set refined twice

pub refined_twice : (table : List DeclaredFeature) (set whole : List Pair) → HasDistinctNames table → refined_by table (refined_by table set whole) whole ≡ refined_by table set whole
refined_twice table set whole distinct =
    ap₂ (λ (xs ys : List Pair). xs ++ ys)
    (same_found table table (λ q. option_or (value_of (reverse whole) q) (value_of (refined_by table set whole) q)) value (all_stand table distinct)
    (λ f found e. ap (option_or (value_of (reverse whole) f.name)) (value_written table value free distinct (once_free table (set ++ whole)) f found e) ∙ sym (option_or-assoc (value_of (reverse whole) f.name) (value_of (reverse whole) f.name) (value_of set f.name)) ∙ ap (λ o. option_or o (value_of set f.name)) (itself (value_of (reverse whole) f.name))))
    (ap firsts (filter-append (λ p. is_with Free table p.0) (refined_by table set whole) whole ∙ ap (λ (ps : List Pair). ps ++ free_of table whole) (free_written table value free distinct (once_free table (set ++ whole))))
    ∙ ap (λ (ps : List Pair). firsts (firsts ps ++ free_of table whole)) (filter-append (λ p. is_with Free table p.0) set whole)
    ∙ firsts_again (free_of table set) (free_of table whole)
    ∙ sym (ap firsts (filter-append (λ p. is_with Free table p.0) set whole)))
  where
    value : List ℕ → Option (List ℕ)
    value = λ q. option_or (value_of (reverse whole) q) (value_of set q)

    free : List Pair
    free = firsts (free_of table (set ++ whole))

    itself : (o : Option (List ℕ)) → option_or o o ≡ o
    itself None = refl
    itself (Some x) = refl

-- no pairs are a set
pub empty_set : (table : List DeclaredFeature) → IsSet table []
empty_set table = nothing table
  where
    nothing : (fs : List DeclaredFeature) → filter_map (pair_of (value_of [])) fs ++ [] ≡ []
    nothing [] = refl
    nothing (f ∷ more) = go (has Free f.attributes) (nothing more)
      where
        go : (b : Bool) → filter_map (pair_of (value_of [])) more ++ [] ≡ [] → cons_option (cond {A = Option Pair} b None None) (filter_map (pair_of (value_of [])) more) ++ [] ≡ []
        go true rest = rest
        go false rest = rest
