-- A declaration without a fault is whole, and none of its implicit values is taken: for features that are added.
use Rattle.std.proofs.Common.{◌≡◌, ℕ, Bool, true, false, cond, not, ◌&&◌, ◌||◌, List, [], ◌∷◌, ◌++◌, Option, Some, None, refl}
use Rattle.std.specs.Option.{option_or, option_map}
use Rattle.std.specs.List.{find, list_any}
use Rattle.std.specs.Str.{bytes_eq}
use Rattle.b2_features.specs.declared.attribute.Attribute.TheVariants.{Implicit, Free, Optional}
use Rattle.b2_features.specs.declared.fault.FeatureFault.TheVariants.{Twice, BadValue}
use Rattle.b2_features.specs.Attributes.{has}
use Rattle.b2_features.specs.Table.{DeclaredFeature, declared, is_implicit_in, is_whole}
use Rattle.b2_features.specs.Faults.{is_name, is_bad_name, is_declared, twice_value, twice_word, bad_word, feature_fault, is_implicit}
use Rattle.b2_features.proofs.TextsAreSoughtInLists.{none_passes}
use Rattle.b2_features.proofs.TablesFindWhatWasAdded.{first_none}

-- where no value of some is there twice, none is taken
none_taken : (table : List DeclaredFeature) (before values : List (List ℕ)) → twice_value table before values ≡ None → find (is_implicit table) values ≡ None
none_taken table before [] e = refl
none_taken table before (x ∷ xs) e = go (is_implicit table x) (list_any (bytes_eq x) before) e (none_taken table (before ++ x ∷ []) xs)
  where
    go : (a b : Bool) → cond (a || b) (Some x) (twice_value table (before ++ x ∷ []) xs) ≡ None → (twice_value table (before ++ x ∷ []) xs ≡ None → find (is_implicit table) xs ≡ None) → cond a (Some x) (find (is_implicit table) xs) ≡ None
    go true b h more = cc
    go false true h more = cc
    go false false h more = more h

-- where a declaration has no fault, no implicit value of it is taken
pub untaken : (table : List DeclaredFeature) (name : List ℕ) (values attributes : List (List ℕ)) → feature_fault table name values attributes ≡ None → (q : List ℕ) → is_implicit_in q (declared name values attributes) ≡ true → is_implicit table q ≡ false
untaken table name values attributes sound q here =
    go (is_declared table name) (has Implicit attributes) (first_none Twice (twice_word table name values attributes) _ sound) here
  where
    go : (there implicit : Bool) → cond there (Some name) (cond implicit (twice_value table [] values) None) ≡ None → (implicit && list_any (λ listed. bytes_eq listed q) values) ≡ true → is_implicit table q ≡ false
    go true implicit t h = cc
    go false true t h = none_passes (is_implicit table) values q (none_taken table [] values t) h
    go false false t h = cc

-- where a declaration has no fault, a feature that is neither free nor optional has a value
pub whole_declared : (table : List DeclaredFeature) (name : List ℕ) (values attributes : List (List ℕ)) → feature_fault table name values attributes ≡ None → is_whole (declared name values attributes) ≡ true
whole_declared table name (value ∷ more) attributes sound = or_true (has Free attributes || has Optional attributes)
  where
    or_true : (b : Bool) → (b || true) ≡ true
    or_true true = refl
    or_true false = refl
whole_declared table name [] attributes sound =
    go (is_name name) (has Free attributes) (has Optional attributes)
    (left_none (cond (is_bad_name [] attributes name) (Some name) None) _ (map_none BadValue (bad_word name [] attributes) (second_none (option_map Twice (twice_word table name [] attributes)) _ sound)))
  where
    second_none : {Y : Type 0} (o p : Option Y) → option_or o p ≡ None → p ≡ None
    second_none None p e = e
    second_none (Some x) p e = cc

    left_none : {Y : Type 0} (o p : Option Y) → option_or o p ≡ None → o ≡ None
    left_none None p e = refl
    left_none (Some x) p e = cc

    map_none : {X Y : Type 0} (g : X → Y) (o : Option X) → option_map g o ≡ None → o ≡ None
    map_none g None e = refl
    map_none g (Some x) e = cc

    go : (named free optional : Bool) → cond (not named || not (free || optional)) (Some name) None ≡ None → (free || optional || false) ≡ true
    go named true optional e = refl
    go named false true e = refl
    go true false false e = cc
    go false false false e = cc
