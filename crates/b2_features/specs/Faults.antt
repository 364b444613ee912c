use Rattle.std.specs.Prelude.{◌≡◌, ℕ, ◌==◌, Bool, false, not, ◌&&◌, ◌||◌, List, [], ◌∷◌, ◌++◌, Option, Some, None, find, option_map, is_some, length, if◌then◌else◌}
use Rattle.std.specs.List.{list_any, list_all}
use Rattle.std.specs.Option.{option_or, option_map_or, option_and_then}
use Rattle.std.specs.Char.{is_ascii_alphanumeric}
use Rattle.std.specs.Str.{bytes_eq}
use Rattle.b2_features.specs.declared.attribute.Attribute.{Attribute}
use Rattle.b2_features.specs.declared.attribute.Attribute.TheVariants.{Implicit, Composite, Free, Optional, Path, Dependency}
use Rattle.b2_features.specs.declared.fault.FeatureFault.{FeatureFault}
use Rattle.b2_features.specs.declared.fault.FeatureFault.TheVariants.{Twice, Unknown, BadValue, ComposeConflict, OutOfMemory}
use Rattle.b2_features.specs.Attributes.{has, is_word_of, is_attribute}
use Rattle.b2_features.specs.Table.{DeclaredFeature, lists, implicit_of, feature_of, parts_of}

-- a letter, a digit, `.`, `_`, `-` or `+`
abbrev pub is_name_byte : ℕ → Bool
is_name_byte byte = is_ascii_alphanumeric byte || byte == 46 || byte == 95 || byte == 45 || byte == 43

-- a name, or a value that is not free: one such character or more
abbrev pub is_name : List ℕ → Bool
is_name word = not (length word == 0) && list_all is_name_byte word

-- ---- declaring a feature

-- a feature of this name is there
abbrev pub is_declared : List DeclaredFeature → List ℕ → Bool
is_declared table name = is_some (feature_of table name)

-- a value is an implicit one of a feature that is there
abbrev pub is_implicit : List DeclaredFeature → List ℕ → Bool
is_implicit table value = is_some (implicit_of table value)

-- the first of some values that is taken, or is one of those before it
abbrev pub twice_value : List DeclaredFeature → List (List ℕ) → List (List ℕ) → Option (List ℕ)
twice_value table before [] = None
twice_value table before (value ∷ more) = if is_implicit table value || list_any (bytes_eq value) before then Some value else twice_value table (before ++ value ∷ []) more

-- the name where it is declared, else the first value of an implicit feature that is there
abbrev pub twice_word : List DeclaredFeature → List ℕ → List (List ℕ) → List (List ℕ) → Option (List ℕ)
twice_word table name values attributes = if is_declared table name then Some name else (if has Implicit attributes then twice_value table [] values else None)

-- a name that is none, or that of a feature without values which is neither free nor optional
abbrev pub is_bad_name : List (List ℕ) → List (List ℕ) → List ℕ → Bool
is_bad_name [] attributes name = not (is_name name) || not (has Free attributes || has Optional attributes)
is_bad_name (value ∷ more) attributes name = not (is_name name)

abbrev pub is_bad_value : Bool → List ℕ → Bool
is_bad_value is_free value = not is_free && not (is_name value)

-- an unknown attribute, `path` or `dependency` without `free`, or `composite` with `free`
abbrev pub is_bad_attribute : Bool → List ℕ → Bool
is_bad_attribute is_free word = not (is_attribute word) || (if is_free then is_word_of Composite word else is_word_of Path word || is_word_of Dependency word)

-- the first bad word of name, values and attributes
abbrev pub bad_word : List ℕ → List (List ℕ) → List (List ℕ) → Option (List ℕ)
bad_word name values attributes =
    option_or (if is_bad_name values attributes name then Some name else None)
    (option_or (find (is_bad_value (has Free attributes)) values) (find (is_bad_attribute (has Free attributes)) attributes))

-- why a feature is not declared
abbrev pub feature_fault : List DeclaredFeature → List ℕ → List (List ℕ) → List (List ℕ) → Option FeatureFault
feature_fault table name values attributes = option_or (option_map Twice (twice_word table name values attributes)) (option_map BadValue (bad_word name values attributes))

-- ---- composing a value

-- the feature that is not there, or the value that its feature, not a free one, does not have
abbrev pub unknown_in : List DeclaredFeature → List ℕ × List ℕ → Option (List ℕ)
unknown_in table property = unknown (feature_of table property.0)
  where
    unknown : Option DeclaredFeature → Option (List ℕ)
    unknown None = Some property.0
    unknown (Some f) = if has Free f.attributes || lists f property.1 then None else Some property.1

-- the first unknown word of some properties
abbrev pub unknown_word : List DeclaredFeature → List (List ℕ × List ℕ) → Option (List ℕ)
unknown_word table properties = option_and_then (unknown_in table) (find (λ property. is_some (unknown_in table property)) properties)

-- whether a feature is there and has an attribute
abbrev pub is_with : Attribute → List DeclaredFeature → List ℕ → Bool
is_with attribute table name = option_map_or (λ f. has attribute f.attributes) (feature_of table name) false

-- a feature that is not composite, or else a component whose feature is
abbrev pub bad_part : List DeclaredFeature → List ℕ → List (List ℕ × List ℕ) → Option (List ℕ)
bad_part table name parts = if is_with Composite table name then option_map (λ part. part.0) (find (λ part. is_with Composite table part.0) parts) else Some name

-- whether the value of a feature has its components already
abbrev pub is_composed : List DeclaredFeature → List ℕ → List ℕ → Bool
is_composed table name value = option_map_or (λ f. is_some (parts_of f value)) (feature_of table name) false

-- whether another of the parts gives the same feature another value
abbrev pub is_contradicted : List (List ℕ × List ℕ) → List ℕ × List ℕ → Bool
is_contradicted parts part = list_any (λ other. bytes_eq other.0 part.0 && not (bytes_eq other.1 part.1)) parts

-- a part that gives a feature, not a free one, one of two values
abbrev pub is_conflict : List DeclaredFeature → List (List ℕ × List ℕ) → List ℕ × List ℕ → Bool
is_conflict table parts part = not (is_with Free table part.0) && is_contradicted parts part

-- a value that is composed already, or else the first value that such a part gives
abbrev pub conflict_word : List DeclaredFeature → List ℕ → List ℕ → List (List ℕ × List ℕ) → Option (List ℕ)
conflict_word table name value parts = if is_composed table name value then Some value else option_map (λ part. part.1) (find (is_conflict table parts) parts)

-- why a value is not composed
abbrev pub compose_fault : List DeclaredFeature → List ℕ → List ℕ → List (List ℕ × List ℕ) → Option FeatureFault
compose_fault table name value parts =
    option_or (option_map Unknown (option_or (unknown_in table (name, value)) (unknown_word table parts)))
    (option_or (option_map BadValue (bad_part table name parts)) (option_map ComposeConflict (conflict_word table name value parts)))

-- ---- both

-- an answer of this kind is the one that the cause names; out of memory needs none
abbrev pub IsBy : Option FeatureFault → FeatureFault → Type 0
IsBy cause OutOfMemory = Unit {0}
IsBy cause fault = cause ≡ Some fault
