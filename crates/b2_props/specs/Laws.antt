use Rattle.std.specs.Prelude.{◌≡◌, Bool, true, false, not, ℕ, List, [], ◌++◌, filter, reverse, Some}
use Rattle.std.specs.List.{list_any}
use Rattle.std.specs.Option.{option_map_or}
use Rattle.b2_features.specs.declared.attribute.Attribute.TheVariants.{Free, Optional}
use Rattle.b2_features.specs.Attributes.{has}
use Rattle.b2_features.specs.Table.{DeclaredFeature, HasDistinctNames, feature_of}
use Rattle.b2_props.specs.Sets.{Pair, IsSet, same, value_of, firsts, free_of}
use Rattle.b2_props.specs.Refinement.{names, components, refined}

-- in a table with distinct names, a set that is refined twice by the same list is as it is after the first time
abbrev pub RefiningTwice : Type 0
RefiningTwice = (table : List DeclaredFeature) (set required : List Pair) → HasDistinctNames table → refined table (refined table set required) required ≡ refined table set required

-- no pairs are a set
abbrev pub NoPairsAreSet : Type 0
NoPairsAreSet = (table : List DeclaredFeature) → IsSet table []

-- whether a feature is there and is not free: a set has one value of it at most
abbrev pub is_single : List DeclaredFeature → List ℕ → Bool
is_single table feature = option_map_or (λ f. not (has Free f.attributes)) (feature_of table feature) false

-- each single feature that is required has its last required value
abbrev pub HasRequired : List DeclaredFeature → List Pair → List Pair → Type 0
HasRequired table required made = (feature : List ℕ) → is_single table feature ≡ true → names required feature ≡ true → value_of made feature ≡ value_of (reverse required) feature

-- a single feature that is neither required nor given by a required composite keeps its value
abbrev pub KeepsOthers : List DeclaredFeature → List Pair → List Pair → List Pair → Type 0
KeepsOthers table set required made =
    (feature : List ℕ) → is_single table feature ≡ true → names required feature ≡ false → names (components table required) feature ≡ false → value_of made feature ≡ value_of set feature

-- a single feature that has a value keeps it
abbrev pub KeepsValues : List DeclaredFeature → List Pair → List Pair → Type 0
KeepsValues table set made = (feature : List ℕ) → is_single table feature ≡ true → names set feature ≡ true → value_of made feature ≡ value_of set feature

-- each feature that is neither free nor optional has a value
abbrev pub HasAllValues : List DeclaredFeature → List Pair → Type 0
HasAllValues table made = (f : DeclaredFeature) → feature_of table f.name ≡ Some f → has Free f.attributes ≡ false → has Optional f.attributes ≡ false → names made f.name ≡ true

-- whether a pair is among some
abbrev pub is_among : List Pair → Pair → Bool
is_among pairs pair = list_any (λ p. same p pair) pairs

-- the free pairs are as before; after them stand those that were added and were not there, in order, each once
abbrev pub KeepsFree : List DeclaredFeature → List Pair → List Pair → List Pair → Type 0
KeepsFree table set added made = free_of table made ≡ free_of table set ++ filter (λ p. not (is_among (free_of table set) p)) (firsts (free_of table added))
