use Rattle.std.specs.Prelude.{◌≡◌, ℕ, List, map, position, String, string_bytes}
use Rattle.std.specs.Global.{Global}
use Rattle.std.specs.List.{AllByRecursion}
use Rattle.std.specs.Map.{lookup}
use Rattle.std.specs.Str.{bytes_eq}
use Rattle.b2_base.specs.Bytes.{HasNoZero}
use Rattle.b2_generators.specs.declared.generator.Generator.{Generator}
use Rattle.b2_generators.specs.Table.{FileType, has_text, HaveDistinctIds}

-- the types that the entries of a table show
abbrev pub types_in : List (String Global × List (List ℕ)) → List FileType
types_in entries = map (λ e. record { name = string_bytes e.0; suffixes = e.1 }) entries

-- each suffix leads to the place of the first type that has it
pub record HasPlaces (types : List FileType) (suffixes : List (List ℕ × ℕ)) : Type 0 where
  pub places : (suffix : List ℕ) → lookup (bytes_eq suffix) suffixes ≡ position (λ t. has_text t.suffixes suffix) types

-- the names of types have no zero byte, and no two generators have one id
pub record AreRegistered (types : List FileType) (generators : List Generator) : Type 0 where
  pub names : AllByRecursion (λ t. HasNoZero t.name) types
  pub ids : HaveDistinctIds generators
