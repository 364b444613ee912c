-- With a feature or the components of a value more, a table finds these, and all else as before: for the registry.
use Rattle.std.proofs.Common.{◌≡◌, ℕ, Bool, true, false, cond, List, [], ◌∷◌, ◌++◌, map, length, position, Option, Some, None, is_some, refl, sym, ◌∙◌, ap}
use Rattle.std.specs.Option.{option_or, option_map, option_map_or, option_and_then}
use Rattle.std.specs.List.{find}
use Rattle.std.specs.Map.{lookup}
use Rattle.std.specs.Str.{bytes_eq}
use Rattle.std.specs.Cmp.Lexicographic.{nat_list_eq_equiv}
use Rattle.std.proofs.lemmas.Slice.Eq.{bytes_eq-Decides}
use Rattle.b2_features.specs.Table.{DeclaredFeature, is_named, feature_of, place_of, implicit_of, is_implicit_in, parts_of, with_parts, composed}
use Rattle.b2_features.specs.Faults.{is_declared, is_composed, unknown_in, unknown_word, bad_part, conflict_word, feature_fault, compose_fault, twice_word, bad_word, is_implicit}
use Rattle.b2_features.specs.declared.fault.FeatureFault.TheVariants.{Twice, Unknown, BadValue, ComposeConflict}
use Rattle.b2_features.specs.Finding.{words_of, FindsOneMore, FindsParts}
use Rattle.b2_features.proofs.ListSearchesAgree.{position-map, position-push, position-none}

text_itself : (x : List ℕ) → bytes_eq x x ≡ true
text_itself x = nat_list_eq_equiv.refl x

-- ---- one feature more

find-push : {X : Type 0} (p : X → Bool) (xs : List X) (y : X) → find p (xs ++ y ∷ []) ≡ option_or (find p xs) (cond (p y) (Some y) None)
find-push p [] y = refl
find-push {X} p (x ∷ xs) y = go (p x) (find-push p xs y)
  where
    go : (b : Bool) → find p (xs ++ y ∷ []) ≡ option_or (find p xs) (cond (p y) (Some y) None) → cond b (Some x) (find p (xs ++ y ∷ [])) ≡ option_or (cond b (Some x) (find p xs)) (cond (p y) (Some y) None)
    go true more = refl
    go false more = more

pub or_none : {X : Type 0} (o : Option X) → option_or o None ≡ o
or_none None = refl
or_none (Some x) = refl

pub none_of : {X : Type 0} (o : Option X) → is_some o ≡ false → o ≡ None
none_of None e = refl
none_of (Some x) e = cc

-- what an implicit value leads to, by the new feature
implicit-push : (table : List DeclaredFeature) (f : DeclaredFeature) (value : List ℕ) → implicit_of (table ++ f ∷ []) value ≡ option_or (implicit_of table value) (cond (is_implicit_in value f) (Some f.name) None)
implicit-push table f value = ap (option_map (λ g. g.name)) (find-push (is_implicit_in value) table f) ∙ go (find (is_implicit_in value) table) (is_implicit_in value f)
  where
    go : (o : Option DeclaredFeature) (b : Bool) → option_map (λ g. g.name) (option_or o (cond b (Some f) None)) ≡ option_or (option_map (λ g. g.name) o) (cond b (Some f.name) None)
    go None true = refl
    go None false = refl
    go (Some g) b = refl

pub finds_push : (table : List DeclaredFeature) (f : DeclaredFeature) → feature_of table f.name ≡ None → ((value : List ℕ) → is_implicit_in value f ≡ true → is_implicit table value ≡ false) → FindsOneMore table (table ++ f ∷ []) f
finds_push table f absent untaken = record {
  by_name = find-push (is_named f.name) table f ∙ ap (λ o. option_or o (cond (bytes_eq f.name f.name) (Some f) None)) absent ∙ ap (λ b. cond b (Some f) None) (text_itself f.name);
  place = position-push (is_named f.name) table f ∙ ap (λ o. option_or o (cond (bytes_eq f.name f.name) (Some (length table)) None)) (position-none (is_named f.name) table absent) ∙ ap (λ b. cond b (Some (length table)) None) (text_itself f.name);
  others = λ name apart. find-push (is_named name) table f ∙ ap (λ b. option_or (feature_of table name) (cond b (Some f) None)) apart ∙ or_none (feature_of table name);
  other_places = λ name apart. position-push (is_named name) table f ∙ ap (λ b. option_or (place_of table name) (cond b (Some (length table)) None)) apart ∙ or_none (place_of table name);
  by_implicit = λ value here.
      implicit-push table f value ∙ ap (λ b. option_or (implicit_of table value) (cond b (Some f.name) None)) here
      ∙ ap (λ o. option_or o (Some f.name)) (none_of (implicit_of table value) (untaken value here));
  other_values = λ value apart. implicit-push table f value ∙ ap (λ b. option_or (implicit_of table value) (cond b (Some f.name) None)) apart ∙ or_none (implicit_of table value);
}

pub first_none : {X Y : Type 0} (f : X → Y) (o : Option X) (p : Option Y) → option_or (option_map f o) p ≡ None → o ≡ None
first_none f None p e = refl
first_none f (Some x) p e = cc

second_none : {Y : Type 0} (o p : Option Y) → option_or o p ≡ None → p ≡ None
second_none None p e = e
second_none (Some x) p e = cc

-- where a declaration has no fault, its name is new
pub undeclared : (table : List DeclaredFeature) (name : List ℕ) (values attributes : List (List ℕ)) → feature_fault table name values attributes ≡ None → feature_of table name ≡ None
undeclared table name values attributes sound = none_of (feature_of table name) (go (is_declared table name) _ (first_none Twice (twice_word table name values attributes) (option_map BadValue (bad_word name values attributes)) sound))
  where
    go : (there : Bool) (o : Option (List ℕ)) → cond there (Some name) o ≡ None → there ≡ false
    go true o e = cc
    go false o e = refl

-- ---- the components of one value more

composed_here : (table : List DeclaredFeature) (name value : List ℕ) (parts : List (List ℕ × List ℕ)) → feature_of (composed table name value parts) name ≡ option_map (λ f. with_parts f value parts) (feature_of table name)
composed_here [] name value parts = refl
composed_here (f ∷ more) name value parts = go (bytes_eq name f.name) refl (composed_here more name value parts)
  where
    go : (b : Bool) → bytes_eq name f.name ≡ b → feature_of (composed more name value parts) name ≡ option_map (λ g. with_parts g value parts) (feature_of more name)
        → feature_of (cond b (with_parts f value parts ∷ more) (f ∷ composed more name value parts)) name ≡ option_map (λ g. with_parts g value parts) (cond b (Some f) (feature_of more name))
    go true e later = ap (λ b. cond b (Some (with_parts f value parts)) (feature_of more name)) e
    go false e later = ap (λ b. cond b (Some f) (feature_of (composed more name value parts) name)) e ∙ later

composed_other : (table : List DeclaredFeature) (name value : List ℕ) (parts : List (List ℕ × List ℕ)) (other : List ℕ) → bytes_eq other name ≡ false → feature_of (composed table name value parts) other ≡ feature_of table other
composed_other [] name value parts other apart = refl
composed_other (f ∷ more) name value parts other apart = go (bytes_eq name f.name) refl (composed_other more name value parts other apart)
  where
    go : (b : Bool) → bytes_eq name f.name ≡ b → feature_of (composed more name value parts) other ≡ feature_of more other
        → feature_of (cond b (with_parts f value parts ∷ more) (f ∷ composed more name value parts)) other ≡ cond (bytes_eq other f.name) (Some f) (feature_of more other)
    go true e later =
        let same : bytes_eq other f.name ≡ false = sym (ap (bytes_eq other) ((bytes_eq-Decides name f.name).0 e)) ∙ apart in
        ap (λ b. cond b (Some (with_parts f value parts)) (feature_of more other)) same ∙ sym (ap (λ b. cond b (Some f) (feature_of more other)) same)
    go false e later = ap (cond (bytes_eq other f.name) (Some f)) later

-- a feature with further components keeps its name, its values and its attributes, so that it stands where it stood
composed_names : (table : List DeclaredFeature) (name value : List ℕ) (parts : List (List ℕ × List ℕ)) → map (λ f. f.name) (composed table name value parts) ≡ map (λ f. f.name) table
composed_names [] name value parts = refl
composed_names (f ∷ more) name value parts = go (bytes_eq name f.name) (composed_names more name value parts)
  where
    go : (b : Bool) → map (λ g. g.name) (composed more name value parts) ≡ map (λ g. g.name) more → map (λ g. g.name) (cond b (with_parts f value parts ∷ more) (f ∷ composed more name value parts)) ≡ f.name ∷ map (λ g. g.name) more
    go true later = refl
    go false later = ap (λ names. f.name ∷ names) later

composed_place : (table : List DeclaredFeature) (name value : List ℕ) (parts : List (List ℕ × List ℕ)) (other : List ℕ) → place_of (composed table name value parts) other ≡ place_of table other
composed_place table name value parts other =
    sym (position-map (bytes_eq other) (λ f. f.name) (composed table name value parts)) ∙ ap (position (bytes_eq other)) (composed_names table name value parts)
    ∙ position-map (bytes_eq other) (λ f. f.name) table

composed_implicit : (table : List DeclaredFeature) (name value : List ℕ) (parts : List (List ℕ × List ℕ)) (word : List ℕ) → implicit_of (composed table name value parts) word ≡ implicit_of table word
composed_implicit [] name value parts word = refl
composed_implicit (f ∷ more) name value parts word = go (bytes_eq name f.name) (is_implicit_in word f) refl (composed_implicit more name value parts word)
  where
    go : (b here : Bool) → is_implicit_in word f ≡ here → implicit_of (composed more name value parts) word ≡ implicit_of more word
        → implicit_of (cond b (with_parts f value parts ∷ more) (f ∷ composed more name value parts)) word ≡ implicit_of (f ∷ more) word
    go true true e later =
        ap (λ c. option_map (λ g. g.name) (cond c (Some (with_parts f value parts)) (find (is_implicit_in word) more))) e
        ∙ sym (ap (λ c. option_map (λ g. g.name) (cond c (Some f) (find (is_implicit_in word) more))) e)
    go true false e later =
        ap (λ c. option_map (λ g. g.name) (cond c (Some (with_parts f value parts)) (find (is_implicit_in word) more))) e
        ∙ sym (ap (λ c. option_map (λ g. g.name) (cond c (Some f) (find (is_implicit_in word) more))) e)
    go false true e later =
        ap (λ c. option_map (λ g. g.name) (cond c (Some f) (find (is_implicit_in word) (composed more name value parts)))) e
        ∙ sym (ap (λ c. option_map (λ g. g.name) (cond c (Some f) (find (is_implicit_in word) more))) e)
    go false false e later =
        ap (λ c. option_map (λ g. g.name) (cond c (Some f) (find (is_implicit_in word) (composed more name value parts)))) e
        ∙ later ∙ sym (ap (λ c. option_map (λ g. g.name) (cond c (Some f) (find (is_implicit_in word) more))) e)

lookup-push : {X : Type 0} (p : List ℕ → Bool) (es : List (List ℕ × X)) (k : List ℕ) (x : X) → lookup p (es ++ (k, x) ∷ []) ≡ option_or (lookup p es) (cond (p k) (Some x) None)
lookup-push p [] k x = refl
lookup-push {X} p (e ∷ es) k x = go (p e.0) (lookup-push p es k x)
  where
    go : (b : Bool) → lookup p (es ++ (k, x) ∷ []) ≡ option_or (lookup p es) (cond (p k) (Some x) None) → cond b (Some e.1) (lookup p (es ++ (k, x) ∷ [])) ≡ option_or (cond b (Some e.1) (lookup p es)) (cond (p k) (Some x) None)
    go true more = refl
    go false more = more

-- where a value may be composed, its feature is there and it has no components
composable : (table : List DeclaredFeature) (name value : List ℕ) (parts : List (List ℕ × List ℕ)) → compose_fault table name value parts ≡ None → (f : DeclaredFeature) → feature_of table name ≡ Some f → parts_of f value ≡ None
composable table name value parts sound f found =
    none_of (parts_of f value) (sym (ap (λ o. option_map_or (λ g. is_some (parts_of g value)) o false) found) ∙ go (is_composed table name value) _ conflict)
  where
    conflict : conflict_word table name value parts ≡ None
    conflict =
        let rest = second_none (option_map Unknown (option_or (unknown_in table (name, value)) (unknown_word table parts))) _ sound in
        map_none ComposeConflict (conflict_word table name value parts) (second_none (option_map BadValue (bad_part table name parts)) _ rest)
      where
        map_none : {X Y : Type 0} (g : X → Y) (o : Option X) → option_map g o ≡ None → o ≡ None
        map_none g None e = refl
        map_none g (Some x) e = cc

    go : (there : Bool) (o : Option (List ℕ)) → cond there (Some value) o ≡ None → there ≡ false
    go true o e = cc
    go false o e = refl

known : (table : List DeclaredFeature) (name value : List ℕ) (parts : List (List ℕ × List ℕ)) → compose_fault table name value parts ≡ None → (o : Option DeclaredFeature) → feature_of table name ≡ o → is_some o ≡ true
known table name value parts sound (Some f) found = refl
known table name value parts sound None found =
    let word = first_none Unknown (option_or (unknown_in table (name, value)) (unknown_word table parts)) _ sound in
    let none : unknown_in table (name, value) ≡ None = or_first (unknown_in table (name, value)) (unknown_word table parts) word in
    let some : unknown_in table (name, value) ≡ Some name = rw found refl in
    cc
  where
    or_first : {Y : Type 0} (o p : Option Y) → option_or o p ≡ None → o ≡ None
    or_first None p e = refl
    or_first (Some x) p e = cc

pub finds_parts : (table : List DeclaredFeature) (name value : List ℕ) (parts : List (List ℕ × List ℕ)) → compose_fault table name value parts ≡ None → FindsParts table (composed table name value parts) name value parts
finds_parts table name value parts sound = record {
  by_value = ap (option_and_then (λ f. parts_of f value)) (composed_here table name value parts) ∙ here (feature_of table name) refl (known table name value parts sound (feature_of table name) refl);
  other_values = λ other apart. ap (option_and_then (λ f. parts_of f other)) (composed_here table name value parts) ∙ beside other apart (feature_of table name);
  words = ap (option_map words_of) (composed_here table name value parts) ∙ same_words (feature_of table name);
  others = λ other apart. composed_other table name value parts other apart;
  places = composed_place table name value parts;
  implicit = composed_implicit table name value parts;
}
  where
    same_words : (o : Option DeclaredFeature) → option_map words_of (option_map (λ f. with_parts f value parts) o) ≡ option_map words_of o
    same_words None = refl
    same_words (Some f) = refl

    here : (o : Option DeclaredFeature) → feature_of table name ≡ o → is_some o ≡ true → option_and_then (λ f. parts_of f value) (option_map (λ f. with_parts f value parts) o) ≡ Some parts
    here None found there = cc
    here (Some f) found there =
        lookup-push (λ composed. bytes_eq composed value) f.parts value parts ∙ ap (λ o. option_or o (cond (bytes_eq value value) (Some parts) None)) (composable table name value parts sound f found)
        ∙ ap (λ b. cond b (Some parts) None) (text_itself value)

    beside : (other : List ℕ) → bytes_eq value other ≡ false → (o : Option DeclaredFeature) → option_and_then (λ f. parts_of f other) (option_map (λ f. with_parts f value parts) o) ≡ option_and_then (λ f. parts_of f other) o
    beside other apart None = refl
    beside other apart (Some f) =
        lookup-push (λ composed. bytes_eq composed other) f.parts value parts ∙ ap (λ b. option_or (parts_of f other) (cond b (Some parts) None)) apart ∙ or_none (parts_of f other)
