-- A refined set has what is required and keeps the rest; an expanded one keeps all and has each value; free pairs stay.
use Rattle.std.proofs.Common.{◌≡◌, ℕ, Bool, true, false, cond, not, ◌&&◌, ◌||◌, List, [], ◌∷◌, ◌++◌, Option, Some, None, Ok, Err, reverse, is_some, slice_get, append_assoc, refl, sym, ◌∙◌, ap, ap₂, subst}
use Rattle.std.specs.Prelude.{Result, OnOk, IfOk}
use Rattle.std.specs.List.{filter, list_all, cons_option}
use Rattle.std.specs.Option.{option_or, option_map, option_map_or}
use Rattle.std.specs.Str.{bytes_eq}
use Rattle.std.proofs.lemmas.List.{reverse-append}
use Rattle.std.proofs.lemmas.List.Elements.{filter-append}
use Rattle.b2_features.specs.declared.attribute.Attribute.TheVariants.{Free, Optional}
use Rattle.b2_features.specs.Attributes.{has}
use Rattle.b2_features.specs.Table.{DeclaredFeature, HasDistinctNames, is_whole, feature_of, default_value}
use Rattle.b2_features.specs.Faults.{is_with}
use Rattle.b2_features.proofs.TablesFindWhatWasAdded.{none_of}
use Rattle.b2_props.specs.Sets.{Pair, same, value_of, firsts, free_of, written, IsSet}
use Rattle.b2_props.specs.Refinement.{names, parts_in, components, brought, completed_from, completed, default_pair, defaults, expanded, refined}
use Rattle.b2_props.specs.Laws.{is_single, HasRequired, KeepsOthers, KeepsValues, HasAllValues, is_among, KeepsFree}
use Rattle.b2_props.proofs.RepeatedPairsAddNothing.{value_of-append, option_or-none}
use Rattle.b2_props.proofs.CompletionGrowsPairByPair.{names-append}
use Rattle.b2_props.proofs.FirstFaultIsTheCause.{name_of_found}
use Rattle.b2_props.proofs.WrittenValuesMakeASet.{value_of-filter, value_written, free_written, once_free}

-- ---- the last value

-- the last value that some pairs give a feature
abbrev last_of : List Pair → List ℕ → Option (List ℕ)
last_of pairs q = value_of (reverse pairs) q

last_of-append : (xs ys : List Pair) (q : List ℕ) → last_of (xs ++ ys) q ≡ option_or (last_of ys q) (last_of xs q)
last_of-append xs ys q = ap (λ ps. value_of ps q) (reverse-append xs ys) ∙ value_of-append (reverse ys) (reverse xs) q

last_of-cons : (p : Pair) (xs : List Pair) (q : List ℕ) → last_of (p ∷ xs) q ≡ option_or (last_of xs q) (value_of (p ∷ []) q)
last_of-cons p xs q = last_of-append (p ∷ []) xs q

-- pairs that give no value give no last one
last_of_none : (xs : List Pair) (q : List ℕ) → value_of xs q ≡ None → last_of xs q ≡ None
last_of_none [] q none = refl
last_of_none (x ∷ xs) q none = last_of-cons x xs q ∙ go (bytes_eq q x.0) none (last_of_none xs q)
  where
    go : (b : Bool) → cond b (Some x.1) (value_of xs q) ≡ None → (value_of xs q ≡ None → last_of xs q ≡ None) → option_or (last_of xs q) (cond b (Some x.1) None) ≡ None
    go true e more = cc
    go false e more = option_or-none (last_of xs q) ∙ more e

-- pairs that give a value give a last one
last_of_some : (xs : List Pair) (q : List ℕ) → names xs q ≡ true → is_some (last_of xs q) ≡ true
last_of_some [] q named = named
last_of_some (x ∷ xs) q named = ap is_some (last_of-cons x xs q) ∙ go (bytes_eq q x.0) (last_of xs q) named (last_of_some xs q)
  where
    go : (b : Bool) (o : Option (List ℕ)) → is_some (cond b (Some x.1) (value_of xs q)) ≡ true → (names xs q ≡ true → is_some o ≡ true) → is_some (option_or o (cond b (Some x.1) None)) ≡ true
    go b (Some y) e more = refl
    go true None e more = refl
    go false None e more = more e

or_left : (a b : Bool) → (a || b) ≡ false → a ≡ false
or_left true b e = e
or_left false b e = refl

or_right : (a b : Bool) → (a || b) ≡ false → b ≡ false
or_right true b e = cc
or_right false b e = e

or_true : (a b : Bool) → a ≡ true → (a || b) ≡ true
or_true true b e = refl
or_true false b e = cc

-- ---- what is brought

-- a required pair brings nothing of a single feature that is taken
brought_none : (table : List DeclaredFeature) (taken : List Pair) (p : Pair) (q : List ℕ) → is_with Free table q ≡ false → names taken q ≡ true → value_of (brought table taken p) q ≡ None
brought_none table taken p q single known =
    value_of-filter (λ feature. is_with Free table feature || not (names taken feature)) (parts_in table p) q
    ∙ ap₂ (λ (a b : Bool). cond (a || not b) (value_of (parts_in table p) q) None) single known

-- the last value of what is completed is the last required one, of a feature that is taken
last_completed : (table : List DeclaredFeature) (taken required : List Pair) (q : List ℕ) → is_with Free table q ≡ false → names taken q ≡ true → last_of (completed_from table taken required) q ≡ last_of required q
last_completed table taken [] q single known = refl
last_completed table taken (p ∷ more) q single known =
    last_of-cons p (brought table taken p ++ rest) q
    ∙ ap (λ o. option_or o (value_of (p ∷ []) q))
    (last_of-append (brought table taken p) rest q
    ∙ ap₂ option_or
    (last_completed table (taken ++ parts_in table p) more q single (names-append taken (parts_in table p) q ∙ or_true (names taken q) (names (parts_in table p) q) known))
    (last_of_none (brought table taken p) q (brought_none table taken p q single known))
    ∙ option_or-none (last_of more q))
    ∙ sym (last_of-cons p more q)
  where
    rest : List Pair
    rest = completed_from table (taken ++ parts_in table p) more

-- what is completed gives no value that neither the list nor its composites give
none_completed : (table : List DeclaredFeature) (taken required : List Pair) (q : List ℕ) → names required q ≡ false → names (components table required) q ≡ false → last_of (completed_from table taken required) q ≡ None
none_completed table taken [] q unnamed apart = refl
none_completed table taken (p ∷ more) q unnamed apart =
    last_of-cons p (brought table taken p ++ rest) q
    ∙ ap₂ option_or
    (last_of-append (brought table taken p) rest q
    ∙ ap₂ option_or (none_completed table (taken ++ parts_in table p) more q (or_right (names (p ∷ []) q) (names more q) split) (or_right (names (parts_in table p) q) (names (components table more) q) parts_split))
    (last_of_none (brought table taken p) q nothing))
    (none_of (value_of (p ∷ []) q) (or_left (names (p ∷ []) q) (names more q) split))
  where
    rest : List Pair
    rest = completed_from table (taken ++ parts_in table p) more

    split : (names (p ∷ []) q || names more q) ≡ false
    split = sym (names-append (p ∷ []) more q) ∙ unnamed

    parts_split : (names (parts_in table p) q || names (components table more) q) ≡ false
    parts_split = sym (names-append (parts_in table p) (components table more) q) ∙ apart

    nothing : value_of (brought table taken p) q ≡ None
    nothing =
        value_of-filter (λ feature. is_with Free table feature || not (names taken feature)) (parts_in table p) q
        ∙ ap (λ o. cond (is_with Free table q || not (names taken q)) o None) (none_of (value_of (parts_in table p) q) (or_left (names (parts_in table p) q) (names (components table more) q) parts_split))
        ∙ none_twice (is_with Free table q || not (names taken q))
      where
        none_twice : (b : Bool) → ◌≡◌ {A = Option (List ℕ)} (cond b None None) None
        none_twice true = refl
        none_twice false = refl

-- ---- single features

not_false : (b : Bool) → not b ≡ true → b ≡ false
not_false true e = cc
not_false false e = refl

-- a written list has the value of each single feature
pub single_value : (table : List DeclaredFeature) (v : List ℕ → Option (List ℕ)) (pairs : List Pair) → HasDistinctNames table → (q : List ℕ) → is_single table q ≡ true → value_of (written table v (firsts (free_of table pairs))) q ≡ v q
single_value table v pairs distinct q single = go (feature_of table q) refl single
  where
    go : (o : Option DeclaredFeature) → feature_of table q ≡ o → option_map_or (λ f. not (has Free f.attributes)) o false ≡ true → value_of (written table v (firsts (free_of table pairs))) q ≡ v q
    go None found e = cc
    go (Some f) found e =
        let same : f.name ≡ q = name_of_found table q f found in
        subst (λ n. value_of (written table v (firsts (free_of table pairs))) n ≡ v n) same
        (value_written table v (firsts (free_of table pairs)) distinct (once_free table pairs) f (ap (feature_of table) same ∙ found) (not_false (has Free f.attributes) e))

not_free : (table : List DeclaredFeature) (q : List ℕ) → is_single table q ≡ true → is_with Free table q ≡ false
not_free table q single = go (feature_of table q) single
  where
    go : (o : Option DeclaredFeature) → option_map_or (λ f. not (has Free f.attributes)) o false ≡ true → option_map_or (λ f. has Free f.attributes) o false ≡ false
    go None e = cc
    go (Some f) e = not_false (has Free f.attributes) e

or_some : (o p : Option (List ℕ)) → is_some o ≡ true → option_or o p ≡ o
or_some None p e = cc
or_some (Some x) p e = refl

-- ---- the laws

pub refined_required : (table : List DeclaredFeature) (set required : List Pair) → HasDistinctNames table → HasRequired table required (refined table set required)
refined_required table set required distinct = λ q single named.
    single_value table (λ feature. option_or (last_of (completed table required) feature) (value_of set feature)) (set ++ completed table required) distinct q single
    ∙ ap (λ o. option_or o (value_of set q)) (last_completed table required required q (not_free table q single) named)
    ∙ or_some (last_of required q) (value_of set q) (last_of_some required q named)

pub refined_others : (table : List DeclaredFeature) (set required : List Pair) → HasDistinctNames table → KeepsOthers table set required (refined table set required)
refined_others table set required distinct = λ q single unnamed apart.
    single_value table (λ feature. option_or (last_of (completed table required) feature) (value_of set feature)) (set ++ completed table required) distinct q single
    ∙ ap (λ o. option_or o (value_of set q)) (none_completed table required required q unnamed apart)

pub expanded_values : (table : List DeclaredFeature) (set : List Pair) → HasDistinctNames table → KeepsValues table set (expanded table set)
expanded_values table set distinct = λ q single named.
    single_value table (value_of whole) whole distinct q single ∙ value_of-append (set ++ components table set) (defaults table) q
    ∙ ap (λ o. option_or o (value_of (defaults table) q)) (value_of-append set (components table set) q ∙ or_some (value_of set q) (value_of (components table set) q) named)
    ∙ or_some (value_of set q) (value_of (defaults table) q) named
  where
    whole : List Pair
    whole = set ++ components table set ++ defaults table

-- a feature with a default is among the defaults
default_there : (table : List DeclaredFeature) (f : DeclaredFeature) → feature_of table f.name ≡ Some f → is_some (default_value f) ≡ true → names (defaults table) f.name ≡ true
default_there [] f found has_one = cc
default_there (g ∷ more) f found has_one = go (bytes_eq f.name g.name) refl found (default_there more f)
  where
    rest : List Pair
    rest = defaults more

    first : (o : Option (List ℕ)) → bytes_eq f.name g.name ≡ true → is_some o ≡ true → is_some (value_of (cons_option (option_map (λ v. (g.name, v)) o) rest) f.name) ≡ true
    first None t e = cc
    first (Some v) t e = ap (λ c. is_some (cond c (Some v) (value_of rest f.name))) t

    skip : (o : Option (List ℕ)) → bytes_eq f.name g.name ≡ false → names rest f.name ≡ true → is_some (value_of (cons_option (option_map (λ v. (g.name, v)) o) rest) f.name) ≡ true
    skip None t e = e
    skip (Some v) t e = ap (λ c. is_some (cond c (Some v) (value_of rest f.name))) t ∙ e

    go : (b : Bool) → bytes_eq f.name g.name ≡ b → cond b (Some g) (feature_of more f.name) ≡ Some f → (feature_of more f.name ≡ Some f → is_some (default_value f) ≡ true → names rest f.name ≡ true) → is_some (value_of (cons_option (default_pair g) rest) f.name) ≡ true
    go true t e later = let same : g ≡ f = cc in first (default_value g) t (ap (λ h. is_some (default_value h)) same ∙ has_one)
    go false t e later = skip (default_value g) t (later e has_one)

-- in a whole table a feature that is neither free nor optional has a default
default_of_found : (table : List DeclaredFeature) → list_all is_whole table ≡ true → (q : List ℕ) (f : DeclaredFeature) → feature_of table q ≡ Some f → has Free f.attributes ≡ false → has Optional f.attributes ≡ false → is_some (default_value f) ≡ true
default_of_found [] whole q f found free optional = cc
default_of_found (g ∷ more) whole q f found free optional = go (is_whole g) (bytes_eq q g.name) refl whole found (λ rest later. default_of_found more rest q f later free optional)
  where
    own : is_whole f ≡ true → is_some (default_value f) ≡ true
    own valued =
        ap₂ (λ (a b : Bool). is_some (cond (a || b) None (slice_get f.values 0))) free optional
        ∙ sym (ap₂ (λ (a b : Bool). a || b || is_some (slice_get f.values 0)) free optional) ∙ valued

    go : (here same : Bool) → is_whole g ≡ here → (here && list_all is_whole more) ≡ true → cond same (Some g) (feature_of more q) ≡ Some f → (list_all is_whole more ≡ true → feature_of more q ≡ Some f → is_some (default_value f) ≡ true) → is_some (default_value f) ≡ true
    go false same e w h later = cc
    go true true e w h later = let is : g ≡ f = cc in own (ap is_whole (sym is) ∙ e)
    go true false e w h later = later w h

pub expanded_all : (table : List DeclaredFeature) (set : List Pair) → HasDistinctNames table → list_all is_whole table ≡ true → HasAllValues table (expanded table set)
expanded_all table set distinct all_whole = λ f found free optional.
    ap is_some (single_value table (value_of whole) whole distinct f.name (ap (λ o. option_map_or (λ g. not (has Free g.attributes)) o false) found ∙ ap not free))
    ∙ names-append (set ++ components table set) (defaults table) f.name
    ∙ or_last (names (set ++ components table set) f.name) (names (defaults table) f.name) (default_there table f found (default_of_found table all_whole f.name f found free optional))
  where
    whole : List Pair
    whole = set ++ components table set ++ defaults table

    or_last : (a b : Bool) → b ≡ true → (a || b) ≡ true
    or_last true b e = refl
    or_last false b e = e

-- ---- free pairs

filter_all : (xs : List Pair) → filter (λ x. true) xs ≡ xs
filter_all [] = refl
filter_all (x ∷ xs) = ap (λ ys. x ∷ ys) (filter_all xs)

filter_neither : (p q : Pair → Bool) (xs : List Pair) → filter (λ x. not (p x)) (filter (λ x. not (q x)) xs) ≡ filter (λ x. not (p x || q x)) xs
filter_neither p q [] = refl
filter_neither p q (x ∷ xs) = go (p x) (q x) refl (filter_neither p q xs)
  where
    once : List Pair
    once = filter (λ y. not (q y)) xs

    both : List Pair
    both = filter (λ y. not (p y || q y)) xs

    go : (a b : Bool) → p x ≡ a → filter (λ y. not (p y)) once ≡ both → filter (λ y. not (p y)) (cond (not b) (x ∷ once) once) ≡ cond (not (a || b)) (x ∷ both) both
    go true true e more = more
    go false true e more = more
    go true false e more = ap (λ c. cond (not c) (x ∷ filter (λ y. not (p y)) once) (filter (λ y. not (p y)) once)) e ∙ more
    go false false e more = ap (λ c. cond (not c) (x ∷ filter (λ y. not (p y)) once) (filter (λ y. not (p y)) once)) e ∙ ap (λ ys. x ∷ ys) more

-- the first places of two lists are those of the one, then those of the other that are not in it
firsts-append : (xs ys : List Pair) → firsts (xs ++ ys) ≡ firsts xs ++ filter (λ q. not (is_among xs q)) (firsts ys)
firsts-append [] ys = sym (filter_all (firsts ys))
firsts-append (x ∷ xs) ys =
    ap (λ zs. x ∷ filter (λ q. not (same x q)) zs) (firsts-append xs ys)
    ∙ ap (λ zs. x ∷ zs) (filter-append (λ q. not (same x q)) (firsts xs) (filter (λ q. not (is_among xs q)) (firsts ys)))
    ∙ ap (λ zs. x ∷ filter (λ q. not (same x q)) (firsts xs) ++ zs) (filter_neither (same x) (is_among xs) (firsts ys))

-- the free pairs of a set stand once
free_once : (table : List DeclaredFeature) (set : List Pair) → HasDistinctNames table → IsSet table set → firsts (free_of table set) ≡ free_of table set
free_once table set distinct is = sym (free_written table (value_of set) (firsts (free_of table set)) distinct (once_free table set)) ∙ ap (free_of table) is

pub written_free : (table : List DeclaredFeature) (v : List ℕ → Option (List ℕ)) (set more : List Pair) → HasDistinctNames table → IsSet table set → KeepsFree table set more (written table v (firsts (free_of table (set ++ more))))
written_free table v set more distinct is =
    free_written table v (firsts (free_of table (set ++ more))) distinct (once_free table (set ++ more))
    ∙ ap firsts (filter-append (λ p. is_with Free table p.0) set more) ∙ firsts-append (free_of table set) (free_of table more)
    ∙ ap (λ (ps : List Pair). ps ++ filter (λ p. not (is_among (free_of table set) p)) (firsts (free_of table more))) (free_once table set distinct is)

pub refined_free : (table : List DeclaredFeature) (set required : List Pair) → HasDistinctNames table → IsSet table set → KeepsFree table set (completed table required) (refined table set required)
refined_free table set required distinct is = written_free table (λ feature. option_or (last_of (completed table required) feature) (value_of set feature)) set (completed table required) distinct is

pub expanded_free : (table : List DeclaredFeature) (set : List Pair) → HasDistinctNames table → IsSet table set → KeepsFree table set (components table set ++ defaults table) (expanded table set)
expanded_free table set distinct is =
    subst (λ whole. KeepsFree table set (components table set ++ defaults table) (written table (value_of whole) (firsts (free_of table whole)))) (sym (append_assoc set (components table set) (defaults table)))
    (written_free table (value_of (set ++ (components table set ++ defaults table))) set (components table set ++ defaults table) distinct is)

-- ---- answers

-- what follows of a value, where there is one, from two facts
pub if_both : {T E : Type 0} (r : Result T E) {P : Type 0} {Q R : T → Type 0} → OnOk r P → IfOk r Q → ((made : T) → P → Q made → R made) → IfOk r R
if_both (Ok made) p q f = f made p q
if_both (Err e) p q f = tt

pub if_all_told : {T E : Type 0} (r : Result T E) {P S : Type 0} {Q R : T → Type 0} → OnOk r P → OnOk r S → IfOk r Q → ((made : T) → P → S → Q made → R made) → IfOk r R
if_all_told (Ok made) p s q f = f made p s q
if_all_told (Err e) p s q f = tt
