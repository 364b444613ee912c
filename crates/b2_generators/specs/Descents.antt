use Rattle.std.specs.Prelude.{◌≡◌, ℕ, suc, ◌<◌, ◌≤◌, nat_lt, Bool, true, false, List, [], ◌∷◌, ◌++◌, length, take, Option, None, Some, MatchOption, ◌⊎◌}
use Rattle.b2_generators.specs.declared.generator.Generator.{Generator}
use Rattle.b2_generators.specs.declared.walk.Branch.{Branch}
use Rattle.b2_generators.specs.Chains.{ids_of}
use Rattle.b2_base.specs.Bytes.{Before}
use Rattle.b2_base.specs.Numbers.{is_among}
use Rattle.b2_generators.specs.Places.{targets_at, takes_any_at, layer_at}

-- Lists of places that go down the layers, and which of them come first.

-- the first place takes one of the types, each later one takes one of those that the place before gives, and each stands in
-- the layer whose number is how many come after it
abbrev pub Descends : List Generator → List (List ℕ) → List (List ℕ) → List ℕ → Type 0
Descends generators layers types [] = Unit {0}
Descends generators layers types (place ∷ places) = (is_among (layer_at layers (length places)) place ≡ true) × (takes_any_at generators types place ≡ true) × Descends generators layers (targets_at generators place) places

-- Of lists of one length that have a property.

-- this one comes before all others
pub record IsFirst (Has : List ℕ → Type 0) (count : ℕ) (one : List ℕ) : Type 0 where
  pub has : Has one
  pub size : length one ≡ count
  pub first : (other : List ℕ) → Has other → length other ≡ count → (other ≡ one) ⊎ Before one other

-- this is the only one
pub record IsOnly (Has : List ℕ → Type 0) (count : ℕ) (one : List ℕ) : Type 0 where
  pub has : Has one
  pub size : length one ≡ count
  pub only : (other : List ℕ) → Has other → length other ≡ count → other ≡ one

-- these two come before all others, in this order
pub record AreFirst (Has : List ℕ → Type 0) (count : ℕ) (one two : List ℕ) : Type 0 where
  pub has : Has one
  pub also : Has two
  pub size : length one ≡ count
  pub same_size : length two ≡ count
  pub order : Before one two
  pub others : (other : List ℕ) → Has other → length other ≡ count → (other ≡ one) ⊎ ((other ≡ two) ⊎ Before two other)

-- whether a place is above a bound, if there is one
abbrev pub is_above : Option ℕ → ℕ → Bool
is_above None place = true
is_above (Some bound) place = nat_lt bound place

-- whether a place is below what was found, if anything was
abbrev pub is_below : ℕ → Option ℕ → Bool
is_below place None = true
is_below place (Some found) = nat_lt place found

-- the least of some places that passes a test
abbrev pub IsLowest : (ℕ → Bool) → List ℕ → Option ℕ → Type 0
IsLowest test places found = MatchOption found
    ((place : ℕ) → is_among places place ≡ true → test place ≡ false)
    (λ low. (is_among places low ≡ true) × (test low ≡ true) × ((place : ℕ) → is_among places place ≡ true → test place ≡ true → low ≤ place))

-- a place of the layer takes one of the types
abbrev pub CanGoOn : List Generator → List (List ℕ) → ℕ → List (List ℕ) → Type 0
CanGoOn generators layers count types = (place : ℕ) × (is_among (layer_at layers count) place ≡ true) × (takes_any_at generators types place ≡ true)

-- from each place of a layer one of the next layer goes on
abbrev pub IsConnected : List Generator → List (List ℕ) → Type 0
IsConnected generators layers = (count place : ℕ) → suc count < length layers → is_among (layer_at layers (suc count)) place ≡ true → CanGoOn generators layers count (targets_at generators place)

-- where the second list leaves the first: how many places stand before, the place that stands there in the second list alone,
-- and how many come after it
pub record IsBranch (generators : List Generator) (layers : List (List ℕ)) (count : ℕ) (types : List (List ℕ)) (one : List ℕ) (branch : Branch) : Type 0 where
  pub within : branch.after < count
  pub before : branch.before ≤ length one
  pub there : is_among (layer_at layers branch.after) branch.place ≡ true
  pub second : (rest : List ℕ) → IsFirst (Descends generators layers (targets_at generators branch.place)) branch.after rest
      → AreFirst (Descends generators layers types) count one (take branch.before one ++ branch.place ∷ rest)

-- the list that comes first, and where the second one leaves it, if there are two
pub record IsWalk (generators : List Generator) (layers : List (List ℕ)) (count : ℕ) (types : List (List ℕ)) (one : List ℕ) (branch : Option Branch) : Type 0 where
  pub first : IsFirst (Descends generators layers types) count one
  pub rest : MatchOption branch (IsOnly (Descends generators layers types) count one) (IsBranch generators layers count types one)

-- where the second list leaves the first, once a further place was chosen: here, where another one could be chosen
abbrev pub branch_after : Option Branch → Option ℕ → ℕ → ℕ → Option Branch
branch_after branch None before after = branch
branch_after branch (Some place) before after = Some (record { before = before; place = place; after = after })

-- these are the ids of the only list that goes down all layers
pub record IsOnlyDown (generators : List Generator) (layers : List (List ℕ)) (from : List ℕ) (ids : List (List ℕ)) : Type 0 where
  pub places : List ℕ
  pub only : IsOnly (Descends generators layers (from ∷ [])) (length layers) places
  pub named : ids ≡ ids_of generators places

-- these are the ids of the first two lists that go down all layers
pub record AreFirstDown (generators : List Generator) (layers : List (List ℕ)) (from : List ℕ) (first second : List (List ℕ)) : Type 0 where
  pub one : List ℕ
  pub two : List ℕ
  pub lead : AreFirst (Descends generators layers (from ∷ [])) (length layers) one two
  pub first_named : first ≡ ids_of generators one
  pub second_named : second ≡ ids_of generators two

-- one list goes down alone, or these are the first two
abbrev pub AreFound : List Generator → List (List ℕ) → List ℕ → List (List ℕ) → Option (List (List ℕ)) → Type 0
AreFound generators layers from first second = MatchOption second (IsOnlyDown generators layers from first) (AreFirstDown generators layers from first)

-- these are the ids of the list that leaves another one at a branch and goes on with those that come first
pub record IsSecond (generators : List Generator) (layers : List (List ℕ)) (one : List ℕ) (branch : Branch) (ids : List (List ℕ)) : Type 0 where
  pub rest : List ℕ
  pub first : IsFirst (Descends generators layers (targets_at generators branch.place)) branch.after rest
  pub named : ids ≡ ids_of generators (take branch.before one ++ branch.place ∷ rest)
