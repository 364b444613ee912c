use Rattle.std.specs.Prelude.{◌≡◌, ℕ, ◌≤◌, Bool, true, false, ◌&&◌, List, [], ◌∷◌, length, option_map, slice_get, ◌⊎◌}
use Rattle.std.specs.List.{filter_map}
use Rattle.std.specs.Option.{option_map_or}
use Rattle.b2_base.specs.Bytes.{Before}
use Rattle.b2_props.specs.Sets.{Pair}
use Rattle.b2_props.specs.Membership.{has_all}
use Rattle.b2_generators.specs.declared.generator.Generator.{Generator}
use Rattle.b2_generators.specs.Table.{has_text}

-- Generators are named by their places in order of registration, from 0; so a list of generators is a list of places.

-- whether a generator makes one type of another in a set: the set has what it requires, it takes the one and gives the other
abbrev pub makes : List Pair → List ℕ → List ℕ → Generator → Bool
makes set source target g = has_all set g.required && has_text g.sources source && has_text g.targets target

-- whether the generator at a place does
abbrev pub makes_at : List Generator → List Pair → ℕ → List ℕ → List ℕ → Bool
makes_at generators set place source target = option_map_or (makes set source target) (slice_get generators place) false

-- generators lead from a type along further types: each takes the type before and gives the next one
abbrev pub Leads : List Generator → List Pair → List ℕ → List ℕ → List (List ℕ) → Type 0
Leads generators set from [] [] = Unit {0}
Leads generators set from [] (type ∷ types) = ⊥
Leads generators set from (place ∷ places) [] = ⊥
Leads generators set from (place ∷ places) (type ∷ types) = (makes_at generators set place from type ≡ true) × Leads generators set type places types

-- the last of some types, of which the first stands apart
abbrev pub last_type : List ℕ → List (List ℕ) → List ℕ
last_type first [] = first
last_type first (type ∷ types) = last_type type types

-- no type stands twice
abbrev pub HasNoRepeat : List (List ℕ) → Type 0
HasNoRepeat [] = Unit {0}
HasNoRepeat (type ∷ types) = (has_text types type ≡ false) × HasNoRepeat types

-- some generators are a chain from one type to another: they lead from the one along types that end with the other, and no
-- type is repeated
pub record IsChain (generators : List Generator) (set : List Pair) (from to : List ℕ) (places : List ℕ) : Type 0 where
  pub types : List (List ℕ)
  pub leads : Leads generators set from places types
  pub ends : last_type from types ≡ to
  pub once : HasNoRepeat (from ∷ types)

-- a shortest chain
pub record IsShortest (generators : List Generator) (set : List Pair) (from to : List ℕ) (places : List ℕ) : Type 0 where
  pub chain : IsChain generators set from to places
  pub least : (other : List ℕ) → IsChain generators set from to other → length places ≤ length other

-- the ids of some generators
abbrev pub ids_of : List Generator → List ℕ → List (List ℕ)
ids_of generators places = filter_map (λ place. option_map (λ g. g.id) (slice_get generators place)) places

-- these are the ids of the only shortest chain
pub record IsOnlyShortest (generators : List Generator) (set : List Pair) (from to : List ℕ) (ids : List (List ℕ)) : Type 0 where
  pub places : List ℕ
  pub shortest : IsShortest generators set from to places
  pub only : (other : List ℕ) → IsShortest generators set from to other → other ≡ places
  pub named : ids ≡ ids_of generators places

-- these are the ids of the two shortest chains that come before all others
pub record AreFirstTwo (generators : List Generator) (set : List Pair) (from to : List ℕ) (first second : List (List ℕ)) : Type 0 where
  pub one : List ℕ
  pub two : List ℕ
  pub one_shortest : IsShortest generators set from to one
  pub two_shortest : IsShortest generators set from to two
  pub order : Before one two
  pub others : (other : List ℕ) → IsShortest generators set from to other → (other ≡ one) ⊎ ((other ≡ two) ⊎ Before two other)
  pub first_named : first ≡ ids_of generators one
  pub second_named : second ≡ ids_of generators two
