-- What a main target asks of those that use it.
use Rattle.std.specs.Prelude.{not, ◌||◌, List, [], ◌∷◌, ◌++◌, filter, map, if◌then◌else◌}
use Rattle.std.specs.List.{flat_map}
use Rattle.b2_features.specs.declared.attribute.Attribute.TheVariants.{Free}
use Rattle.b2_features.specs.Table.{DeclaredFeature}
use Rattle.b2_features.specs.Faults.{is_with}
use Rattle.b2_props.specs.Sets.{Pair}
use Rattle.b2_props.specs.Membership.{has_all}
use Rattle.b2_props.specs.Refinement.{names}
use Rattle.b2_props.specs.declared.requirement.Requirement.{Requirement}
use Rattle.b2_props.specs.declared.requirement.Requirement.TheVariants.{Plain, Indirect}
use Rattle.b2_declaring_calls.specs.declared.declaration.Kind.{Kind}
use Rattle.b2_declaring_calls.specs.declared.declaration.Kind.TheVariants.{Exe, Lib, Obj, Alias, Make, Install}
use Rattle.b2_declared.specs.declared.place.Target.{Target}
use Rattle.b2_declared.specs.declared.whole.Declared.{Declared}
use Rattle.b2_references.specs.Names.{features, lineage}

-- what usage requirements give in a set: the property of each whose conditions all are in it; no rule answers one
abbrev pub usage_pairs : List Pair → Requirement → List Pair
usage_pairs set (Plain conditions property) = if has_all set conditions then property ∷ [] else []
usage_pairs set (Indirect rule) = []

abbrev pub usage_in : List Pair → List Requirement → List Pair
usage_in set usage = flat_map (usage_pairs set) usage

-- pairs of several levels, the lowest last: one of a feature that is not free yields where a level below it names the feature
abbrev pub yielding : List DeclaredFeature → List (List Pair) → List Pair
yielding table [] = []
yielding table (level ∷ below) = filter (λ p. is_with Free table p.0 || not (names (flat_map (λ pairs. pairs) below) p.0)) level ++ yielding table below

module _ (d : Declared) where
  -- what the usage requirements give in a set: those of the projects from Jamroot down, then the target's
  abbrev pub own_levels : Target → List Pair → List (List Pair)
  own_levels t set = map (λ p. usage_in set p.usage) (lineage d t.project) ++ usage_in set t.usage ∷ []

  -- the own usage requirements, judged in the set of the target
  abbrev pub own_usage : Target → List Pair → List Pair
  own_usage t set = yielding (features d) (own_levels t set)

-- an `alias` adds those of all that it needs, in order
abbrev pub passed_usage : Kind → List Pair → List Pair
passed_usage Alias usage = usage
passed_usage Exe usage = []
passed_usage Lib usage = []
passed_usage Obj usage = []
passed_usage Make usage = []
passed_usage Install usage = []
