use Rattle.std.specs.Prelude.{◌≡◌, ℕ, ◌≤◌, true, List, [], ◌∷◌, length}
use Rattle.b2_props.specs.Sets.{Pair}
use Rattle.b2_generators.specs.declared.generator.Generator.{Generator}
use Rattle.b2_generators.specs.Chains.{makes_at}

-- some generators lead from a type to an end, whatever types they pass
abbrev pub EndsAt : List Generator → List Pair → List ℕ → List ℕ → List ℕ → Type 0
EndsAt generators set end [] from = from ≡ end
EndsAt generators set end (place ∷ places) from = (type : List ℕ) × (makes_at generators set place from type ≡ true) × EndsAt generators set end places type

-- so many generators lead from a type to the end
abbrev pub IsAway : List Generator → List Pair → List ℕ → ℕ → List ℕ → Type 0
IsAway generators set end count type = (places : List ℕ) × EndsAt generators set end places type × (length places ≡ count)

-- no fewer generators lead from a type to the end
abbrev pub IsAtLeast : List Generator → List Pair → List ℕ → ℕ → List ℕ → Type 0
IsAtLeast generators set end count type = (places : List ℕ) → EndsAt generators set end places type → count ≤ length places
