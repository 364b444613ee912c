-- The gcc toolset as tables.
use Prim.Native.String.{String}
use Rattle.std.specs.Prelude.{ℕ, ◌==◌, List, [], ◌∷◌, length, codes, if◌then◌else◌}
use Rattle.std.specs.List.{slice_split}
use Rattle.b2_features.specs.Table.{DeclaredFeature, declared}
use Rattle.b2_props.specs.Sets.{Pair}
use Rattle.b2_generators.specs.Table.{FileType}
use Rattle.b2_generators.specs.declared.generator.Generator.{Generator}

-- the words of a text, with one space, 32, between two of them
abbrev pub words : String → List (List ℕ)
words text = if length (codes text) == 0 then [] else slice_split (λ byte. byte == 32) (codes text)

-- ---- features

-- a feature, its values, of which the first is the default, and its attributes
abbrev pub feature : String → String → String → DeclaredFeature
feature name values attributes = declared (codes name) (words values) (words attributes)

-- the features, in order
unfoldable pub features : List DeclaredFeature
features =
    feature "toolset" "gcc" "implicit propagated symmetric"
    ∷ feature "variant" "debug release" "implicit composite propagated symmetric"
    ∷ feature "optimization" "off speed space" "propagated"
    ∷ feature "debug-symbols" "on off" "propagated"
    ∷ feature "inlining" "off on full" "propagated"
    ∷ feature "runtime-debugging" "on off" "propagated"
    ∷ feature "link" "shared static" "propagated"
    ∷ feature "runtime-link" "shared static" "propagated"
    ∷ feature "threading" "single multi" "propagated"
    ∷ feature "warnings" "on all off" "incidental"
    ∷ feature "define" "" "free"
    ∷ feature "cflags" "" "free"
    ∷ feature "cxxflags" "" "free"
    ∷ feature "linkflags" "" "free"
    ∷ feature "include" "" "free path"
    ∷ feature "location" "" "free path"
    ∷ feature "library" "" "free dependency"
    ∷ feature "source" "" "free dependency"
    ∷ feature "dependency" "" "free dependency"
    ∷ feature "use" "" "free dependency"
    ∷ []

-- a value of a feature with its components
pub record Composite : Type 0 where
  pub feature : List ℕ
  pub value : List ℕ
  pub parts : List Pair

-- a feature and a value
abbrev pub property : String → String → Pair
property feature value = (codes feature, codes value)

-- the composed values, in order
unfoldable pub composites : List Composite
composites =
    record {
      feature = codes "variant";
      value = codes "debug";
      parts = property "optimization" "off" ∷ property "debug-symbols" "on" ∷ property "inlining" "off" ∷ property "runtime-debugging" "on" ∷ [];
    }
    ∷ record {
      feature = codes "variant";
      value = codes "release";
      parts = property "optimization" "speed" ∷ property "debug-symbols" "off" ∷ property "inlining" "full" ∷ property "runtime-debugging" "off" ∷ property "define" "NDEBUG" ∷ [];
    }
    ∷ []

-- ---- types and generators

-- a type of files with its suffixes
abbrev pub file_type : String → String → FileType
file_type name suffixes = record { name = codes name; suffixes = words suffixes }

-- the types of files, in order
unfoldable pub file_types : List FileType
file_types =
    file_type "C" "c"
    ∷ file_type "CPP" "cpp cc cxx"
    ∷ file_type "H" "h hh hpp hxx"
    ∷ file_type "OBJ" "o"
    ∷ file_type "EXE" ""
    ∷ file_type "STATIC_LIB" "a"
    ∷ file_type "SHARED_LIB" "so"
    ∷ []

-- a generator from one type to another, where a set has the properties
abbrev pub generator : String → String → String → List Pair → Generator
generator id source target required = record { id = codes id; sources = codes source ∷ []; targets = codes target ∷ []; required = required }

-- the generators, in order
unfoldable pub generators : List Generator
generators =
    generator "gcc.compile.c++" "CPP" "OBJ" []
    ∷ generator "gcc.compile.c" "C" "OBJ" []
    ∷ generator "gcc.link" "OBJ" "EXE" []
    ∷ generator "gcc.link.dll" "OBJ" "SHARED_LIB" (property "link" "shared" ∷ [])
    ∷ generator "gcc.archive" "OBJ" "STATIC_LIB" (property "link" "static" ∷ [])
    ∷ []
