-- What the rows of the program's tables show.
use Rattle.std.specs.Prelude.{ℕ, Bool, ◌&&◌, List, [], ◌∷◌, map, nat_lt}
use Rattle.std.specs.List.{list_all}
use Rattle.std.specs.Borrow.{Bor}
use Rattle.b2_base.specs.Segments.{texts}
use Rattle.b2_features.specs.Table.{DeclaredFeature, declared}
use Rattle.b2_props.specs.Sets.{Pair}
use Rattle.b2_generators.specs.Table.{FileType}
use Rattle.b2_generators.specs.declared.generator.Generator.{Generator}
use Rattle.b2_gcc.specs.Tables.{Composite}
use Rattle.b2_gcc.specs.declared.features.FeatureRow.{FeatureRow}
use Rattle.b2_gcc.specs.declared.features.CompositeRow.{CompositeRow}
use Rattle.b2_gcc.specs.declared.types.TypeRow.{TypeRow}
use Rattle.b2_gcc.specs.declared.types.GeneratorRow.{GeneratorRow}

-- what pairs of references point to
abbrev pub pairs : List (Bor (List ℕ) × Bor (List ℕ)) → List Pair
pairs = map (λ p. (p.0.now, p.1.now))

abbrev pub feature_in : FeatureRow → DeclaredFeature
feature_in row = declared row.name.now (texts row.values.now) (texts row.attributes.now)

abbrev pub composite_in : CompositeRow → Composite
composite_in row = record { feature = row.feature.now; value = row.value.now; parts = pairs row.parts.now }

abbrev pub type_in : TypeRow → FileType
type_in row = record { name = row.name.now; suffixes = texts row.suffixes.now }

abbrev pub generator_in : GeneratorRow → Generator
generator_in row = record { id = row.id.now; sources = row.source.now ∷ []; targets = row.target.now ∷ []; required = pairs row.required.now }

-- ---- rows without zero bytes

-- whether no byte is zero
abbrev pub is_clean : List ℕ → Bool
is_clean text = list_all (nat_lt 0) text

-- whether no byte of a pair is zero
abbrev pub is_clean_pair : Pair → Bool
is_clean_pair p = is_clean p.0 && is_clean p.1

abbrev pub is_clean_feature : DeclaredFeature → Bool
is_clean_feature f = is_clean f.name && (list_all is_clean f.values && list_all is_clean f.attributes)

abbrev pub is_clean_composite : Composite → Bool
is_clean_composite c = is_clean c.feature && (is_clean c.value && list_all is_clean_pair c.parts)

abbrev pub is_clean_type : FileType → Bool
is_clean_type t = is_clean t.name && list_all is_clean t.suffixes

abbrev pub is_clean_generator : GeneratorRow → Bool
is_clean_generator row = is_clean row.id.now && (is_clean row.source.now && (is_clean row.target.now && list_all is_clean_pair (pairs row.required.now)))
