use Rattle.std.specs.Prelude.{ℕ, Bool, false, not, ◌||◌, List, ◌∷◌, ◌++◌, Option, filter, map, if◌then◌else◌}
use Rattle.std.specs.List.{join_with_byte}
use Rattle.std.specs.Option.{option_map_or, option_or}
use Rattle.std.specs.Str.{bytes_eq}
use Rattle.b2_features.specs.declared.attribute.Attribute.TheVariants.{Implicit, Free, Propagated, Symmetric, Incidental}
use Rattle.b2_features.specs.Table.{DeclaredFeature, default_of}
use Rattle.b2_features.specs.Faults.{is_with}
use Rattle.b2_props.specs.Sets.{Pair, value_of}
use Rattle.b2_props.specs.Refinement.{components}

-- what a target hands on to its dependencies
abbrev pub propagated : List DeclaredFeature → List Pair → List Pair
propagated table set = filter (λ p. is_with Propagated table p.0) set

-- the usual value of a feature in a set: the one that its composites give, else the default
abbrev pub usual : List DeclaredFeature → List Pair → List ℕ → Option (List ℕ)
usual table set feature = option_or (value_of (components table set) feature) (default_of table feature)

-- whether a pair shows in a path beside the usual value of its feature: a free or incidental one never does, a symmetric
-- one always, any other where it has another value
abbrev pub shows_beside : List DeclaredFeature → Option (List ℕ) → Pair → Bool
shows_beside table common pair =
    if is_with Free table pair.0 || is_with Incidental table pair.0 then false else (is_with Symmetric table pair.0 || not (option_map_or (bytes_eq pair.1) common false))

-- whether a pair of a set shows in its path
abbrev pub shows : List DeclaredFeature → List Pair → Pair → Bool
shows table set pair = shows_beside table (usual table set pair.0) pair

-- how a pair shows: the value alone, where its feature is implicit, else the feature, a dash and the value
abbrev pub element : List DeclaredFeature → Pair → List ℕ
element table pair = if is_with Implicit table pair.0 then pair.1 else pair.0 ++ 45 ∷ pair.1

-- the elements of a set's path, in the order of the set
abbrev pub elements : List DeclaredFeature → List Pair → List (List ℕ)
elements table set = map (element table) (filter (shows table set) set)

-- the elements with slashes between them
abbrev pub dir_text : List DeclaredFeature → List Pair → List ℕ
dir_text table set = join_with_byte 47 (elements table set)
