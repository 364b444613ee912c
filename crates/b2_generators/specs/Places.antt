use Rattle.std.specs.Prelude.{ℕ, Bool, false, ◌&&◌, List, [], slice_get, slice_index_or}
use Rattle.std.specs.List.{list_any}
use Rattle.std.specs.Option.{option_map_or}
use Rattle.b2_props.specs.Sets.{Pair}
use Rattle.b2_props.specs.Membership.{has_all}
use Rattle.b2_generators.specs.declared.generator.Generator.{Generator}
use Rattle.b2_generators.specs.Table.{has_text}

-- What the generator at a place takes and gives. Where there is none, it takes and gives nothing.

-- whether the set has what the generator requires
abbrev pub is_usable_at : List Generator → List Pair → ℕ → Bool
is_usable_at generators set place = option_map_or (λ g. has_all set g.required) (slice_get generators place) false

abbrev pub sources_at : List Generator → ℕ → List (List ℕ)
sources_at generators place = option_map_or (λ g. g.sources) (slice_get generators place) []

abbrev pub targets_at : List Generator → ℕ → List (List ℕ)
targets_at generators place = option_map_or (λ g. g.targets) (slice_get generators place) []

-- whether the generator can be used in the set and gives the type
abbrev pub gives_at : List Generator → List Pair → ℕ → List ℕ → Bool
gives_at generators set place type = is_usable_at generators set place && has_text (targets_at generators place) type

-- whether the generator takes one of the types
abbrev pub takes_any_at : List Generator → List (List ℕ) → ℕ → Bool
takes_any_at generators types place = list_any (has_text (sources_at generators place)) types

-- whether one of the generators takes the type
abbrev pub is_taken_by : List Generator → List ℕ → List ℕ → Bool
is_taken_by generators places type = list_any (λ place. has_text (sources_at generators place) type) places

-- the layer of a depth, empty past the last one
abbrev pub layer_at : List (List ℕ) → ℕ → List ℕ
layer_at layers depth = slice_index_or layers depth []
