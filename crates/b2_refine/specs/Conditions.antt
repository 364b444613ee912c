use Rattle.std.specs.Prelude.{◌≡◌, ◌≢◌, ℕ, zero, suc, ◌≤◌, Bool, true, false, List, [], ◌∷◌, ◌++◌, Result, Ok, Err, length, filter, if◌then◌else◌}
use Rattle.std.specs.List.{flat_map}
use Rattle.b2_base.specs.Results.{and_then}
use Rattle.b2_features.specs.Table.{DeclaredFeature}
use Rattle.b2_props.specs.Sets.{Pair}
use Rattle.b2_props.specs.Membership.{has_all}
use Rattle.b2_props.specs.Refinement.{refined}
use Rattle.b2_props.specs.declared.requirement.Requirement.{Requirement}
use Rattle.b2_props.specs.declared.requirement.Requirement.TheVariants.{Plain, Indirect}
use Rattle.b2_refine.specs.Answers.{Answer}

-- the property of a requirement without conditions
abbrev pub own_pairs : Requirement → List Pair
own_pairs (Plain [] property) = property ∷ []
own_pairs (Plain (condition ∷ conditions) property) = []
own_pairs (Indirect rule) = []

-- the properties that are required without conditions
abbrev pub unconditional : List Requirement → List Pair
unconditional required = flat_map own_pairs required

-- whether a requirement is conditional or indirect
abbrev pub is_other : Requirement → Bool
is_other (Plain [] property) = false
is_other (Plain (condition ∷ conditions) property) = true
is_other (Indirect rule) = true

-- the conditional and the indirect requirements
abbrev pub others : List Requirement → List Requirement
others required = filter is_other required

-- what a requirement gives in a set: its property where the set has all its conditions, or what its rule answers
abbrev pub gives : {F : Type 0} → Answer F → List Pair → Requirement → Result (List Pair) F
gives answer set (Plain conditions property) = Ok (if has_all set conditions then property ∷ [] else [])
gives answer set (Indirect rule) = answer rule set

-- pairs, then further pairs, or the first fault of both
abbrev pub joined : {F : Type 0} → Result (List Pair) F → Result (List Pair) F → Result (List Pair) F
joined (Ok pairs) (Ok more) = Ok (pairs ++ more)
joined (Ok pairs) (Err fault) = Err fault
joined (Err fault) rest = Err fault

-- what requirements give in a set, in their order, or the first fault
abbrev pub given : {F : Type 0} → Answer F → List Pair → List Requirement → Result (List Pair) F
given answer set [] = Ok []
given answer set (requirement ∷ more) = joined (gives answer set requirement) (given answer set more)

-- the set of round 0: the request refined by what is required without conditions
abbrev pub first_set : List DeclaredFeature → List Pair → List Requirement → List Pair
first_set table request required = refined table request (unconditional required)

-- the set of the next round: that of round 0, refined by what the other requirements give in the set of this one
abbrev pub next_set : {F : Type 0} → Answer F → List DeclaredFeature → List Pair → List Requirement → List Pair → Result (List Pair) F
next_set answer table base required set = and_then (λ pairs. Ok (refined table base pairs)) (given answer set (others required))

-- the set of a round, or the first fault that came before it
abbrev pub round_set : {F : Type 0} → Answer F → List DeclaredFeature → List Pair → List Requirement → ℕ → Result (List Pair) F
round_set answer table request required zero = Ok (first_set table request required)
round_set answer table request required (suc k) = and_then (next_set answer table (first_set table request required) required) (round_set answer table request required k)

-- the last round whose set may be the result: one more than there are conditional and indirect requirements
abbrev pub last_round : List Requirement → ℕ
last_round required = suc (length (others required))

-- The result is the set of a round that the next round leaves as it is. All later rounds leave it so too, so that it is
-- that of the first such round.
abbrev pub IsSettled : {F : Type 0} → Answer F → List DeclaredFeature → List Pair → List Requirement → List Pair → Type 0
IsSettled answer table request required set =
    (k : ℕ) × (k ≤ last_round required) × (round_set answer table request required k ≡ Ok set) × (round_set answer table request required (suc k) ≡ Ok set)

-- no round leaves its set as it is: the sets of the last round and of the one after it differ
abbrev pub IsUnstable : {F : Type 0} → Answer F → List DeclaredFeature → List Pair → List Requirement → List Pair → List Pair → Type 0
IsUnstable answer table request required first second =
    (round_set answer table request required (last_round required) ≡ Ok first) × (round_set answer table request required (suc (last_round required)) ≡ Ok second) × (first ≢ second)

-- a rule answers with a fault before a round leaves its set as it is: the first answer of this kind, by rounds and then by
-- requirements
abbrev pub IsAsked : {F : Type 0} → Answer F → List DeclaredFeature → List Pair → List Requirement → F → Type 0
IsAsked answer table request required fault = (k : ℕ) × (k ≤ suc (last_round required)) × (round_set answer table request required k ≡ Err fault)
