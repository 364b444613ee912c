use Rattle.std.specs.Prelude.{ℕ, Bool, not, ◌||◌, List, [], ◌∷◌, ◌++◌, Option, option_map, filter, reverse, is_some, unwrap_or}
use Rattle.std.specs.List.{filter_map, flat_map}
use Rattle.std.specs.Option.{option_map_or, option_or}
use Rattle.b2_features.specs.declared.attribute.Attribute.TheVariants.{Free}
use Rattle.b2_features.specs.Table.{DeclaredFeature, feature_of, parts_of, default_value}
use Rattle.b2_features.specs.Faults.{is_with}
use Rattle.b2_props.specs.Sets.{Pair, value_of, firsts, free_of, written, set_of}

-- the components of a pair: none where its value is not composed
abbrev pub parts_in : List DeclaredFeature → Pair → List Pair
parts_in table pair = option_map_or (λ f. unwrap_or (parts_of f pair.1) []) (feature_of table pair.0) []

-- the components of some pairs, in order
abbrev pub components : List DeclaredFeature → List Pair → List Pair
components table pairs = flat_map (parts_in table) pairs

-- a feature with its default, where it has one
abbrev pub default_pair : DeclaredFeature → Option Pair
default_pair f = option_map (λ v. (f.name, v)) (default_value f)

-- the defaults of all features
abbrev pub defaults : List DeclaredFeature → List Pair
defaults table = filter_map default_pair table

-- a set made whole: its own pairs come first, then the components of its composites, then the defaults
abbrev pub expanded : List DeclaredFeature → List Pair → List Pair
expanded table set = set_of table (set ++ components table set ++ defaults table)

-- whether some pairs have a value of a feature
abbrev pub names : List Pair → List ℕ → Bool
names pairs feature = is_some (value_of pairs feature)

-- what a required pair brings: its free components, and those of features that are not taken
abbrev pub brought : List DeclaredFeature → List Pair → Pair → List Pair
brought table taken pair = filter (λ part. is_with Free table part.0 || not (names taken part.0)) (parts_in table pair)

-- some required pairs, each followed by what it brings; the components of each are taken for the later ones
abbrev pub completed_from : List DeclaredFeature → List Pair → List Pair → List Pair
completed_from table taken [] = []
completed_from table taken (pair ∷ more) = pair ∷ brought table taken pair ++ completed_from table (taken ++ parts_in table pair) more

-- the required pairs made whole: the features that they name themselves are taken from the start
abbrev pub completed : List DeclaredFeature → List Pair → List Pair
completed table required = completed_from table required required

-- a set refined by a whole list: a feature that is not free has the last value of the list, else its own; the free pairs
-- are the own ones, then the new ones
abbrev pub refined_by : List DeclaredFeature → List Pair → List Pair → List Pair
refined_by table set whole = written table (λ feature. option_or (value_of (reverse whole) feature) (value_of set feature)) (firsts (free_of table (set ++ whole)))

-- a set refined by required pairs
abbrev pub refined : List DeclaredFeature → List Pair → List Pair → List Pair
refined table set required = refined_by table set (completed table required)
