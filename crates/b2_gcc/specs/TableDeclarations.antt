-- What several declarations in order make of a table, and which of them is refused first.
use Rattle.std.specs.Prelude.{Bool, false, ◌||◌, List, [], ◌∷◌, ◌++◌, Option, None, fold}
use Rattle.std.specs.Option.{option_or}
use Rattle.b2_features.specs.declared.fault.FeatureFault.{FeatureFault}
use Rattle.b2_features.specs.Table.{DeclaredFeature, composed}
use Rattle.b2_features.specs.Faults.{feature_fault, compose_fault}
use Rattle.b2_generators.specs.Table.{FileType, Registered, is_type_taken, is_generator_refused}
use Rattle.b2_generators.specs.declared.generator.Generator.{Generator}
use Rattle.b2_gcc.specs.Tables.{Composite, features, composites}

-- ---- features

-- why some features are not declared: the fault of the first that is refused, after those before it
abbrev pub features_fault : List DeclaredFeature → List DeclaredFeature → Option FeatureFault
features_fault table [] = None
features_fault table (f ∷ more) = option_or (feature_fault table f.name f.values f.attributes) (features_fault (table ++ f ∷ []) more)

-- the table after a value was composed
abbrev pub with_composite : List DeclaredFeature → Composite → List DeclaredFeature
with_composite table c = composed table c.feature c.value c.parts

-- why some values are not composed: the fault of the first that is refused, after those before it
abbrev pub composites_fault : List DeclaredFeature → List Composite → Option FeatureFault
composites_fault table [] = None
composites_fault table (c ∷ more) = option_or (compose_fault table c.feature c.value c.parts) (composites_fault (with_composite table c) more)

-- the table with the toolset's features after its own, and their composites
abbrev pub with_toolset : List DeclaredFeature → List DeclaredFeature
with_toolset table = fold with_composite (table ++ features) composites

-- why the toolset's features are not declared
abbrev pub toolset_fault : List DeclaredFeature → Option FeatureFault
toolset_fault table = option_or (features_fault table features) (composites_fault (table ++ features) composites)

-- ---- types and generators

-- the types after those that are there
abbrev pub with_types : Registered → List FileType → Registered
with_types registered types = record registered { types = registered.types ++ types }

-- whether one of some types cannot be registered after those before it
abbrev pub are_types_refused : List FileType → List FileType → Bool
are_types_refused there [] = false
are_types_refused there (t ∷ more) = is_type_taken there t.name t.suffixes || are_types_refused (there ++ t ∷ []) more

-- the generators after those that are there
abbrev pub with_generators : Registered → List Generator → Registered
with_generators registered generators = record registered { generators = registered.generators ++ generators }

-- whether one of some generators cannot be registered after those before it
abbrev pub are_generators_refused : Registered → List Generator → Bool
are_generators_refused registered [] = false
are_generators_refused registered (g ∷ more) = is_generator_refused registered g || are_generators_refused (with_generators registered (g ∷ [])) more
