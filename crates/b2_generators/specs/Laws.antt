use Rattle.std.specs.Prelude.{◌≡◌, ℕ, List, []}
use Rattle.b2_props.specs.Sets.{Pair}
use Rattle.b2_generators.specs.Chains.{IsChain, IsOnlyShortest, AreFirstTwo}
use Rattle.b2_generators.specs.declared.generator.Generator.{Generator}

-- a chain from a type to itself is empty, and the empty list is one
abbrev pub SameTypeIsEmpty : Type 0
SameTypeIsEmpty = (generators : List Generator) (set : List Pair) (type : List ℕ) (places : List ℕ) → IsChain generators set type type places → places ≡ []

abbrev pub EmptyIsChain : Type 0
EmptyIsChain = (generators : List Generator) (set : List Pair) (type : List ℕ) → IsChain generators set type type []

-- the three answers exclude each other: there is no chain, there is one shortest chain alone, or there are two

abbrev pub NoneIsNotOne : Type 0
NoneIsNotOne = (generators : List Generator) (set : List Pair) (from to : List ℕ) (ids : List (List ℕ)) → ((places : List ℕ) → ¬ IsChain generators set from to places) → ¬ IsOnlyShortest generators set from to ids

abbrev pub NoneIsNotTwo : Type 0
NoneIsNotTwo = (generators : List Generator) (set : List Pair) (from to : List ℕ) (first second : List (List ℕ)) → ((places : List ℕ) → ¬ IsChain generators set from to places) → ¬ AreFirstTwo generators set from to first second

abbrev pub OneIsNotTwo : Type 0
OneIsNotTwo = (generators : List Generator) (set : List Pair) (from to : List ℕ) (ids first second : List (List ℕ)) → IsOnlyShortest generators set from to ids → ¬ AreFirstTwo generators set from to first second
