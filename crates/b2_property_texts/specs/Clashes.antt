-- Lists that give a feature two values.
use Rattle.std.specs.Prelude.{Bool, false, not, ◌&&◌, List, [], ◌∷◌, Option, Some, None}
use Rattle.std.specs.List.{list_any, filter_map}
use Rattle.std.specs.Option.{option_map_or}
use Rattle.std.specs.Str.{bytes_eq}
use Rattle.b2_features.specs.declared.attribute.Attribute.TheVariants.{Free}
use Rattle.b2_features.specs.Table.{DeclaredFeature}
use Rattle.b2_features.specs.Faults.{is_with}
use Rattle.b2_props.specs.Sets.{Pair, value_of}
use Rattle.b2_property_texts.specs.declared.reading.RequirementText.{RequirementText}
use Rattle.b2_property_texts.specs.declared.reading.RequirementText.TheVariants.{Plain, Indirect}

-- whether a pair gives a feature that is not free another value than the first one that the pairs give it
abbrev pub is_second_value : List DeclaredFeature → List Pair → Pair → Bool
is_second_value table pairs p = not (is_with Free table p.0) && option_map_or (λ v. not (bytes_eq v p.1)) (value_of pairs p.0) false

-- whether some pairs give a feature that is not free two values
abbrev pub has_two_values : List DeclaredFeature → List Pair → Bool
has_two_values table pairs = list_any (is_second_value table pairs) pairs

-- the property of a requirement without conditions
abbrev pub unconditional_pair : RequirementText → Option Pair
unconditional_pair (Plain c) = always c.conditions c.property
  where
    always : List Pair → Pair → Option Pair
    always [] property = Some property
    always (condition ∷ more) property = None
unconditional_pair (Indirect rule) = None

-- the properties that some requirements require always
abbrev pub unconditional_pairs : List RequirementText → List Pair
unconditional_pairs requirements = filter_map unconditional_pair requirements
