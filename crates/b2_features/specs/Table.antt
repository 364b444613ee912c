use Rattle.std.specs.Prelude.{◌≡◌, ℕ, Bool, false, ◌&&◌, ◌||◌, List, [], ◌∷◌, ◌++◌, Option, None, map, find, position, option_map, is_some, slice_get, if◌then◌else◌}
use Rattle.std.specs.List.{list_any, AllByRecursion}
use Rattle.std.specs.Option.{option_and_then}
use Rattle.std.specs.Map.{lookup}
use Rattle.std.specs.Str.{bytes_eq}
use Rattle.b2_features.specs.declared.attribute.Attribute.TheVariants.{Implicit, Free, Optional}
use Rattle.b2_features.specs.declared.feature.Feature.{Feature}
use Rattle.b2_features.specs.Attributes.{has}

-- a declared feature; `parts` has the components, each a feature and a value, of each composed value
pub record DeclaredFeature : Type 0 where
  pub name : List ℕ
  pub values : List (List ℕ)
  pub attributes : List (List ℕ)
  pub parts : List (List ℕ × List (List ℕ × List ℕ))

-- what a feature of the program declares
abbrev pub seen : Feature → DeclaredFeature
seen f = record { name = f.name; values = f.values; attributes = f.attributes; parts = map (λ p. (p.0, p.1.items)) f.parts.items }

abbrev pub is_named : List ℕ → DeclaredFeature → Bool
is_named name f = bytes_eq name f.name

-- whether the feature lists the value
abbrev pub lists : DeclaredFeature → List ℕ → Bool
lists f value = list_any (λ listed. bytes_eq listed value) f.values

-- whether the value stands for itself as a value of this feature
abbrev pub is_implicit_in : List ℕ → DeclaredFeature → Bool
is_implicit_in value f = has Implicit f.attributes && lists f value

-- the feature of a name
abbrev pub feature_of : List DeclaredFeature → List ℕ → Option DeclaredFeature
feature_of table name = find (is_named name) table

-- the place of a name, from 0
abbrev pub place_of : List DeclaredFeature → List ℕ → Option ℕ
place_of table name = position (is_named name) table

-- no two features have one name
abbrev pub HasDistinctNames : List DeclaredFeature → Type 0
HasDistinctNames [] = Unit {0}
HasDistinctNames (f ∷ more) = AllByRecursion (λ other. is_named f.name other ≡ false) more × HasDistinctNames more

-- the feature of which the value is an implicit one
abbrev pub implicit_of : List DeclaredFeature → List ℕ → Option (List ℕ)
implicit_of table value = option_map (λ f. f.name) (find (is_implicit_in value) table)

-- the default of a feature is its first value; a free or an optional one has none
abbrev pub default_value : DeclaredFeature → Option (List ℕ)
default_value f = if has Free f.attributes || has Optional f.attributes then None else slice_get f.values 0

-- whether a feature has a value, where it is neither free nor optional
abbrev pub is_whole : DeclaredFeature → Bool
is_whole f = has Free f.attributes || has Optional f.attributes || is_some (slice_get f.values 0)

-- the default of the feature of a name
abbrev pub default_of : List DeclaredFeature → List ℕ → Option (List ℕ)
default_of table name = option_and_then default_value (feature_of table name)

-- what the call declares: values and attributes in its order, and no components
abbrev pub declared : List ℕ → List (List ℕ) → List (List ℕ) → DeclaredFeature
declared name values attributes = record { name = name; values = values; attributes = attributes; parts = [] }

-- the components of a value, where it is composed
abbrev pub parts_of : DeclaredFeature → List ℕ → Option (List (List ℕ × List ℕ))
parts_of f value = lookup (λ composed. bytes_eq composed value) f.parts

-- the components of a value are added after those of the values before it
abbrev pub with_parts : DeclaredFeature → List ℕ → List (List ℕ × List ℕ) → DeclaredFeature
with_parts f value parts = record f { parts = f.parts ++ (value, parts) ∷ [] }

-- the table after the value of a feature was composed
abbrev pub composed : List DeclaredFeature → List ℕ → List ℕ → List (List ℕ × List ℕ) → List DeclaredFeature
composed [] name value parts = []
composed (f ∷ more) name value parts = if is_named name f then with_parts f value parts ∷ more else f ∷ composed more name value parts
