use Rattle.std.specs.Prelude.{◌≡◌, ℕ, ◌-◌, List, slice_get}
use Rattle.std.specs.List.Sorted.{IsPermutation}
use Rattle.b2_features.specs.Table.{DeclaredFeature}
use Rattle.b2_props.specs.Sets.{Pair}
use Rattle.b2_props.specs.declared.requirement.Requirement.{Requirement}
use Rattle.b2_refine.specs.Answers.{Answer}
use Rattle.b2_refine.specs.Conditions.{IsSettled, IsUnstable, IsAsked}
use Rattle.b2_refine.specs.Choices.{IsChosen, IsChoice}
use Rattle.b2_refine.specs.declared.choice.Choice.{Choice}
use Rattle.b2_refine.specs.declared.choice.Choice.TheVariants.{One, None, Ambiguous}

-- ---- requirements

-- an evaluation settles on one set at most
abbrev pub SettlesOnOne : Type 0 → Type 0
SettlesOnOne F = (answer : Answer F) (table : List DeclaredFeature) (request : List Pair) (required : List Requirement) (a b : List Pair) → IsSettled answer table request required a → IsSettled answer table request required b → a ≡ b

-- an evaluation that settles is not unstable
abbrev pub SettledIsStable : Type 0 → Type 0
SettledIsStable F = (answer : Answer F) (table : List DeclaredFeature) (request : List Pair) (required : List Requirement) (set a b : List Pair) → IsSettled answer table request required set → ¬ IsUnstable answer table request required a b

-- an evaluation that settles meets no fault
abbrev pub SettledHasNoFault : Type 0 → Type 0
SettledHasNoFault F = (answer : Answer F) (table : List DeclaredFeature) (request : List Pair) (required : List Requirement) (set : List Pair) (fault : F) → IsSettled answer table request required set → ¬ IsAsked answer table request required fault

-- an evaluation that meets a fault is not unstable
abbrev pub UnstableHasNoFault : Type 0 → Type 0
UnstableHasNoFault F = (answer : Answer F) (table : List DeclaredFeature) (request : List Pair) (required : List Requirement) (a b : List Pair) (fault : F) → IsUnstable answer table request required a b → ¬ IsAsked answer table request required fault

-- an evaluation meets one fault at most
abbrev pub MeetsOneFault : Type 0 → Type 0
MeetsOneFault F = (answer : Answer F) (table : List DeclaredFeature) (request : List Pair) (required : List Requirement) (a b : F) → IsAsked answer table request required a → IsAsked answer table request required b → a ≡ b

-- ---- alternatives

-- at most one alternative is chosen
abbrev pub OneIsChosen : Type 0
OneIsChosen = (full : List Pair) (conditions : List (List Pair)) (i k : ℕ) → IsChosen full conditions i → IsChosen full conditions k → i ≡ k

-- there is one choice at most
abbrev pub OneChoice : Type 0
OneChoice = (full : List Pair) (conditions : List (List Pair)) (a b : Choice) → IsChoice full conditions a → IsChoice full conditions b → a ≡ b

-- two choices are one, up to the numbers of the alternatives: none, one with the same condition, or two that clash
abbrev pub SameUpToNumbers : List (List Pair) → List (List Pair) → Choice → Choice → Type 0
SameUpToNumbers before after None None = Unit {0}
SameUpToNumbers before after (One i) (One k) = slice_get before (i - 1) ≡ slice_get after (k - 1)
SameUpToNumbers before after (Ambiguous i k) (Ambiguous m n) = Unit {0}
SameUpToNumbers before after a b = ⊥

-- the order of the alternatives changes nothing but their numbers
abbrev pub OrderChangesNumbers : Type 0
OrderChangesNumbers = (full : List Pair) (before after : List (List Pair)) (a b : Choice) → IsPermutation before after → IsChoice full before a → IsChoice full after b → SameUpToNumbers before after a b
