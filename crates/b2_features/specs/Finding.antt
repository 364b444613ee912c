use Rattle.std.specs.Prelude.{◌≡◌, ℕ, true, false, List, Option, Some, option_map, length}
use Rattle.std.specs.Option.{option_and_then}
use Rattle.std.specs.Str.{bytes_eq}
use Rattle.b2_features.specs.Table.{DeclaredFeature, feature_of, place_of, parts_of, is_implicit_in, implicit_of}

-- A table has one feature more, which is found by its name, at the place after all others, and by each of its implicit
-- values. Every other name and every other value leads where it led before.
pub record FindsOneMore (old new : List DeclaredFeature) (f : DeclaredFeature) : Type 0 where
  pub by_name : feature_of new f.name ≡ Some f
  pub place : place_of new f.name ≡ Some (length old)
  pub others : (name : List ℕ) → bytes_eq name f.name ≡ false → feature_of new name ≡ feature_of old name
  pub other_places : (name : List ℕ) → bytes_eq name f.name ≡ false → place_of new name ≡ place_of old name
  pub by_implicit : (value : List ℕ) → is_implicit_in value f ≡ true → implicit_of new value ≡ Some f.name
  pub other_values : (value : List ℕ) → is_implicit_in value f ≡ false → implicit_of new value ≡ implicit_of old value

-- the components of a value of the feature of a name
abbrev pub parts_at : List DeclaredFeature → List ℕ → List ℕ → Option (List (List ℕ × List ℕ))
parts_at table name value = option_and_then (λ f. parts_of f value) (feature_of table name)

-- the values and the attributes of a feature
abbrev pub words_of : DeclaredFeature → List (List ℕ) × List (List ℕ)
words_of f = (f.values, f.attributes)

-- A table finds the components of one value more. Every other value of the feature has those that it had, and all else is
-- found as before: its values and attributes, the other features, the places, and what each implicit value leads to.
pub record FindsParts (old new : List DeclaredFeature) (name value : List ℕ) (parts : List (List ℕ × List ℕ)) : Type 0 where
  pub by_value : parts_at new name value ≡ Some parts
  pub other_values : (other : List ℕ) → bytes_eq value other ≡ false → parts_at new name other ≡ parts_at old name other
  pub words : option_map words_of (feature_of new name) ≡ option_map words_of (feature_of old name)
  pub others : (other : List ℕ) → bytes_eq other name ≡ false → feature_of new other ≡ feature_of old other
  pub places : (other : List ℕ) → place_of new other ≡ place_of old other
  pub implicit : (word : List ℕ) → implicit_of new word ≡ implicit_of old word
