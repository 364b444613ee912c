use Rattle.std.specs.Prelude.{◌≡◌, ℕ, ◌==◌, ◌<◌, Bool, true, ◌||◌, ◌&&◌, List, [], ◌∷◌, ◌++◌, length, unwrap_or, ◌⊎◌, if◌then◌else◌}
use Rattle.std.specs.Ordering.{nat_cmp}
use Rattle.std.specs.Cmp.Lexicographic.{slice_cmp}
use Rattle.std.specs.FinMap as map
use Rattle.std.specs.Str.{bytes_eq}
use Rattle.b2_base.specs.Numbers.{is_among}
use Rattle.b2_props.specs.Sets.{Pair}
use Rattle.b2_generators.specs.declared.generator.Generator.{Generator}
use Rattle.b2_generators.specs.Places.{gives_at, layer_at}
use Rattle.b2_generators.specs.Walks.{EndsAt, IsAway, IsAtLeast}

-- The search for the shortest chains goes backwards from the type where they end. Layer 0 has the generators that give this
-- type; layer `count` has those that give a type from which `count` generators lead to the end, and no fewer.

-- for each type the places of generators that give it, where nothing has asked for the type yet
abbrev pub Givers : Type 0
Givers = map.FinMap (slice_cmp nat_cmp) (List ℕ)

-- the places of the generators that give a type
abbrev pub stock : Givers → List ℕ → List ℕ
stock givers type = unwrap_or (map.get givers type) []

-- a place was put after those that stood at a type
abbrev pub AddsAtOne : ℕ → List ℕ → Givers → Givers → Type 0
AddsAtOne place target old new = (type : List ℕ) → stock new type ≡ (if bytes_eq type target then stock old target ++ place ∷ [] else stock old type)

-- a place stands at the types that pass a test, and all stand where they stood
abbrev pub AddsWhere : ℕ → (List ℕ → Bool) → Givers → Givers → Type 0
AddsWhere place test old new = (type : List ℕ) (p : ℕ) → is_among (stock new type) p ≡ (is_among (stock old type) p || (place == p && test type))

-- each generator that can be used stands at each type that it gives, and no other one does
abbrev pub AreAll : List Generator → List Pair → Givers → Type 0
AreAll generators set givers = (place : ℕ) (type : List ℕ) → is_among (stock givers type) place ≡ gives_at generators set place type

-- what stood at some types was moved to the end of a list
pub record Moves (taken : List ℕ → Bool) (old new : Givers) (before after : List ℕ) : Type 0 where
  pub stocks : (type : List ℕ) → stock new type ≡ (if taken type then [] else stock old type)
  pub stays : (place : ℕ) → is_among before place ≡ true → is_among after place ≡ true
  pub comes : (type : List ℕ) (place : ℕ) → taken type ≡ true → is_among (stock old type) place ≡ true → is_among after place ≡ true
  pub only : (place : ℕ) → is_among after place ≡ true → (is_among before place ≡ true) ⊎ ((type : List ℕ) × (taken type ≡ true) × (is_among (stock old type) place ≡ true))

-- the generators of a layer
pub record IsLayer (generators : List Generator) (set : List Pair) (end : List ℕ) (count : ℕ) (layer : List ℕ) : Type 0 where
  pub gives : (place : ℕ) → is_among layer place ≡ true → (type : List ℕ) × (gives_at generators set place type ≡ true) × IsAway generators set end count type × IsAtLeast generators set end count type
  pub all : (place : ℕ) (type : List ℕ) → gives_at generators set place type ≡ true → IsAway generators set end count type → IsAtLeast generators set end count type → is_among layer place ≡ true

-- each of the layers is the one of its number
abbrev pub AreInOrder : List Generator → List Pair → List ℕ → List (List ℕ) → Type 0
AreInOrder generators set end layers = (count : ℕ) → count < length layers → IsLayer generators set end count (layer_at layers count)

-- the layers between a type and the end: as many as generators lead there at least
pub record AreLayers (generators : List Generator) (set : List Pair) (end from : List ℕ) (layers : List (List ℕ)) : Type 0 where
  pub order : AreInOrder generators set end layers
  pub away : IsAway generators set end (length layers) from
  pub least : IsAtLeast generators set end (length layers) from

-- nothing leads from a type to the end
abbrev pub IsApart : List Generator → List Pair → List ℕ → List ℕ → Type 0
IsApart generators set end from = (places : List ℕ) → EndsAt generators set end places from → ⊥
