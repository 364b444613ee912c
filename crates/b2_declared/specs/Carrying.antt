-- What the declaring calls of a load make of the tables of features, types and generators, one call after another.
use Rattle.std.specs.Prelude.{ℕ, Bool, true, false, ◌||◌, List, [], ◌∷◌, ◌++◌, Option, Some, None, Result, Ok, Err, map, length, replicate, slice_set, slice_get, unwrap_or, if◌then◌else◌}
use Rattle.b2_features.specs.declared.fault.FeatureFault.{FeatureFault}
use Rattle.b2_features.specs.Table.{DeclaredFeature, declared, composed}
use Rattle.b2_features.specs.Faults.{feature_fault, compose_fault}
use Rattle.b2_props.specs.Sets.{Pair}
use Rattle.b2_generators.specs.declared.generator.Generator.{Generator as GeneratorRow}
use Rattle.b2_generators.specs.Table.{Registered, is_type_taken, is_generator_refused}
use Rattle.b2_gcc.specs.Tables.{file_types, generators}
use Rattle.b2_gcc.specs.TableDeclarations.{toolset_fault, with_toolset, with_types, are_types_refused, with_generators, are_generators_refused}
use Rattle.b2_property_texts.specs.Clashes.{has_two_values}
use Rattle.b2_property_texts.specs.Readings.{property_reading, all_read}
use Rattle.b2_declaring_calls.specs.declared.declaration.Declaration.{Declaration}
use Rattle.b2_declaring_calls.specs.declared.declaration.Declaration.TheVariants.{Project, Main, Explicit, BuildProject, UseProject, Using, Feature, Compose, FileType, Generator, Import, Test}
use Rattle.b2_declaring_calls.specs.Declarations.{is_refused}
use Rattle.b2_declared.specs.declared.fault.DeclaringFault.{DeclaringFault}
use Rattle.b2_declared.specs.declared.visit.Visit.{Visit}
use Rattle.b2_declared.specs.declared.visit.Call.{Call}
use Rattle.b2_declared.specs.Outcomes.{all_steps}
use Rattle.b2_declared.specs.DeclaringCalls.{visit_of, refusal, unless, unless_fault, after_reading}

-- The tables so far: the features, the types and generators, whether the gcc toolset is among them, and of each project
-- whether it had its `project` call.
pub record Tables : Type 0 where
  pub features : List DeclaredFeature
  pub registered : Registered
  pub has_gcc : Bool
  pub begun : List Bool

-- the tables with other features
abbrev pub with_features : Tables → List DeclaredFeature → Tables
with_features t features = record t { features = features }

-- the tables with other types and generators
abbrev pub with_registered : Tables → Registered → Tables
with_registered t registered = record t { registered = registered }

-- whether a project had its `project` call
abbrev pub has_begun : Tables → ℕ → Bool
has_begun t project = unwrap_or (slice_get t.begun project) false

-- `project`: the first one of a project
unfoldable pub with_project : Visit → Call → Tables → Result Tables DeclaringFault
with_project v c t = unless v c (has_begun t c.project) (Ok (record t { begun = slice_set t.begun c.project true }))

-- whether the toolset's types and generators cannot be registered
abbrev pub is_gcc_refused : Registered → Bool
is_gcc_refused registered = are_types_refused registered.types file_types || are_generators_refused (with_types registered file_types) generators

-- the tables with the toolset
abbrev pub gcc_tables : Tables → Tables
gcc_tables t = record t { features = with_toolset t.features; registered = with_generators (with_types t.registered file_types) generators; has_gcc = true }

-- `using gcc`: the toolset, where it is not there
unfoldable pub with_gcc : Visit → Call → Tables → Result Tables DeclaringFault
with_gcc v c t = if t.has_gcc then Ok t else unless_fault v c (toolset_fault t.features) (unless v c (is_gcc_refused t.registered) (Ok (gcc_tables t)))

-- `feature.feature`
unfoldable pub with_feature : Visit → Call → List ℕ → List (List ℕ) → List (List ℕ) → Tables → Result Tables DeclaringFault
with_feature v c name values attributes t =
    unless_fault v c (feature_fault t.features name values attributes) (Ok (with_features t (t.features ++ declared name values attributes ∷ [])))

-- the properties of some texts of a project, or the first fault
abbrev pub properties_in : List DeclaredFeature → Visit → List (List ℕ) → Result (List Pair) FeatureFault
properties_in features v texts = all_read (map (property_reading features v.dir) texts)

-- a value of a feature, composed of properties
unfoldable pub with_parts : Visit → Call → Pair → List Pair → Tables → Result Tables DeclaringFault
with_parts v c p parts t = unless_fault v c (compose_fault t.features p.0 p.1 parts) (Ok (with_features t (composed t.features p.0 p.1 parts)))

-- `feature.compose`: its first text is read, then the components are
unfoldable pub with_compose : Visit → Call → List ℕ → List (List ℕ) → Tables → Result Tables DeclaringFault
with_compose v c property parts t =
    after_reading v c (property_reading t.features v.dir property) (λ p.
    after_reading v c (properties_in t.features v parts) (λ ps. with_parts v c p ps t))

-- `type.register`
unfoldable pub with_type : Visit → Call → List ℕ → List (List ℕ) → Tables → Result Tables DeclaringFault
with_type v c name suffixes t =
    unless v c (is_type_taken t.registered.types name suffixes)
    (Ok (with_registered t (with_types t.registered (record { name = name; suffixes = suffixes } ∷ []))))

-- a generator is registered
unfoldable pub with_row : Visit → Call → GeneratorRow → Tables → Result Tables DeclaringFault
with_row v c g t = unless v c (is_generator_refused t.registered g) (Ok (with_registered t (with_generators t.registered (g ∷ []))))

-- `generators.register-standard`: its requirements are read first, and give no feature that is not free two values
unfoldable pub with_generator : Visit → Call → List ℕ → List (List ℕ) → List (List ℕ) → List (List ℕ) → Tables → Result Tables DeclaringFault
with_generator v c id sources targets requirements t =
    after_reading v c (properties_in t.features v requirements) (λ ps.
    unless v c (has_two_values t.features ps)
    (with_row v c (record { id = id; sources = sources; targets = targets; required = ps }) t))

-- a declaration carried out
abbrev pub with_declaration : Visit → Call → Declaration → Tables → Result Tables DeclaringFault
with_declaration v c (Project attributes) t = with_project v c t
with_declaration v c (Main target) t = Ok t
with_declaration v c (Explicit names) t = Ok t
with_declaration v c (BuildProject dir) t = Ok t
with_declaration v c (UseProject id dir) t = Ok t
with_declaration v c (Using command) t = with_gcc v c t
with_declaration v c (Feature name values attributes) t = with_feature v c name values attributes t
with_declaration v c (Compose property parts) t = with_compose v c property parts t
with_declaration v c (FileType name suffixes) t = with_type v c name suffixes t
with_declaration v c (Generator id sources targets requirements) t = with_generator v c id sources targets requirements t
with_declaration v c Import t = Ok t
with_declaration v c (Test test) t = Ok t

-- a declaration carried out, unless its output roots or its name is refused
unfoldable pub with_accepted : Visit → Call → Declaration → Tables → Result Tables DeclaringFault
with_accepted v c d t = unless v c (c.refused || is_refused d) (with_declaration v c d t)

-- a call carried out: one whose lists have another shape than its rule asks for is refused
abbrev pub carried_out : Visit → Call → Option Declaration → Tables → Result Tables DeclaringFault
carried_out v c None t = Err (refusal v c)
carried_out v c (Some d) t = with_accepted v c d t

-- tables of some projects with nothing in them
abbrev pub fresh_tables : ℕ → Tables
fresh_tables projects = record { features = []; registered = record { types = []; generators = [] }; has_gcc = false; begun = replicate projects false }

-- the tables before anything was declared, for as many projects as were visited
abbrev pub no_tables : List Visit → Tables
no_tables visits = fresh_tables (length visits)

-- the step of a call among the projects of a load
abbrev pub carrying : List Visit → Tables → Call → Result Tables DeclaringFault
carrying visits t c = carried_out (visit_of visits c) c c.declaration t

-- all calls carried out in order, up to the first that is refused
abbrev pub tables_of : List Visit → List Call → Result Tables DeclaringFault
tables_of visits calls = all_steps (carrying visits) (no_tables visits) calls
