use Rattle.std.specs.Prelude.{◌≡◌, ℕ, ◌==◌, Bool, false, not, ◌||◌, List, [], ◌∷◌, Option, None, Some, find, option_map, is_some, unwrap_or, slice_get, codes, if◌then◌else◌}
use Rattle.std.specs.List.{AllPairs, list_any, list_all, after_last}
use Rattle.std.specs.Option.{option_and_then}
use Rattle.std.specs.Str.{bytes_eq}
use Rattle.b2_base.specs.Segments.{file_name}
use Rattle.b2_generators.specs.declared.generator.Generator.{Generator}

-- a registered type, with its suffixes, each without the dot before it
pub record FileType : Type 0 where
  pub name : List ℕ
  pub suffixes : List (List ℕ)

-- the types and the generators, each in order of registration
pub record Registered : Type 0 where
  pub types : List FileType
  pub generators : List Generator

-- whether some texts have a text
abbrev pub has_text : List (List ℕ) → List ℕ → Bool
has_text texts text = list_any (bytes_eq text) texts

-- ---- types

-- the type of a name
abbrev pub type_named : List FileType → List ℕ → Option FileType
type_named types name = find (λ t. bytes_eq name t.name) types

-- whether there is a type of this name
abbrev pub is_type : List FileType → List ℕ → Bool
is_type types name = is_some (type_named types name)

-- the name of the type of a suffix
abbrev pub type_with : List FileType → List ℕ → Option (List ℕ)
type_with types suffix = option_map (λ t. t.name) (find (λ t. has_text t.suffixes suffix) types)

-- whether some text stands twice
abbrev pub has_repeat : List (List ℕ) → Bool
has_repeat [] = false
has_repeat (text ∷ more) = has_text more text || has_repeat more

-- whether a type cannot be registered: its name or one of its suffixes is there, or a suffix stands twice among its own
abbrev pub is_type_taken : List FileType → List ℕ → List (List ℕ) → Bool
is_type_taken types name suffixes = is_type types name || list_any (λ suffix. is_some (type_with types suffix)) suffixes || has_repeat suffixes

-- the first suffix of a type, where it has one
abbrev pub first_suffix : List FileType → List ℕ → Option (List ℕ)
first_suffix types name = option_and_then (λ t. slice_get t.suffixes 0) (type_named types name)

-- ---- paths

-- the last suffix of a file's name: what stands after its last dot, 46, where it has one
abbrev pub last_suffix : List ℕ → Option (List ℕ)
last_suffix name = if list_any (λ byte. byte == 46) name then Some (after_last (λ byte. byte == 46) name) else None

-- the type of a path: that of its last suffix, else `FILE`
abbrev pub type_of : List FileType → List ℕ → List ℕ
type_of types path = unwrap_or (option_and_then (type_with types) (last_suffix (file_name path))) (codes "FILE")

-- ---- generators

-- the generator of an id
abbrev pub generator_named : List Generator → List ℕ → Option Generator
generator_named generators id = find (λ g. bytes_eq id g.id) generators

-- whether a generator cannot be registered: its id is there, or one of its types is not
abbrev pub is_generator_refused : Registered → Generator → Bool
is_generator_refused registered g = is_some (generator_named registered.generators g.id) || not (list_all (is_type registered.types) g.sources) || not (list_all (is_type registered.types) g.targets)

-- no two generators have one id
abbrev pub HaveDistinctIds : List Generator → Type 0
HaveDistinctIds generators = AllPairs (λ g h. bytes_eq g.id h.id ≡ false) generators
