use Rattle.std.specs.Prelude.{◌≡◌, ℕ, List, Option, Some}
use Rattle.b2_props.specs.Sets.{Pair}
use Rattle.b2_generators.specs.Chains.{IsChain, AreFirstTwo}
use Rattle.b2_generators.specs.declared.generator.Generator.{Generator}
use Rattle.b2_generators.specs.declared.fault.ChainFault.{ChainFault}
use Rattle.b2_generators.specs.declared.fault.ChainFault.TheVariants.{NoChain, TwoChains, OutOfMemory}

-- an answer names the two types that were asked for
abbrev pub IsBetween : List ℕ → List ℕ → ChainFault → Type 0
IsBetween from to (NoChain a b) = (a ≡ from) × (b ≡ to)
IsBetween from to (TwoChains a b first second) = (a ≡ from) × (b ≡ to)
IsBetween from to OutOfMemory = Unit {0}

-- an answer that there is no chain: no list of generators is one
abbrev pub IsNoChainBy : List Generator → List Pair → List ℕ → List ℕ → ChainFault → Type 0
IsNoChainBy generators set from to (NoChain a b) = (places : List ℕ) → ¬ IsChain generators set from to places
IsNoChainBy generators set from to (TwoChains a b first second) = Unit {0}
IsNoChainBy generators set from to OutOfMemory = Unit {0}

-- an answer that there are two chains: these come first of all that are the shortest
abbrev pub IsTwoChainsBy : List Generator → List Pair → List ℕ → List ℕ → ChainFault → Type 0
IsTwoChainsBy generators set from to (NoChain a b) = Unit {0}
IsTwoChainsBy generators set from to (TwoChains a b first second) = AreFirstTwo generators set from to first second
IsTwoChainsBy generators set from to OutOfMemory = Unit {0}

-- an answer that names two chains and their types
abbrev pub TellsBoth : List ℕ → List ℕ → List (List ℕ) → Option (List (List ℕ)) → ChainFault → Type 0
TellsBoth from to one other (NoChain a b) = ⊥
TellsBoth from to one other (TwoChains a b first second) = (a ≡ from) × (b ≡ to) × (first ≡ one) × (other ≡ Some second)
TellsBoth from to one other OutOfMemory = Unit {0}
