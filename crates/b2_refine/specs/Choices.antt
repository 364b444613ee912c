use Rattle.std.specs.Prelude.{◌≡◌, ◌≢◌, ℕ, suc, ◌<◌, ◌≤◌, Bool, true, false, not, ◌&&◌, List, [], ◌∷◌, slice_get}
use Rattle.std.specs.Option.{option_map_or}
use Rattle.b2_props.specs.Sets.{Pair}
use Rattle.b2_props.specs.Membership.{has_all}
use Rattle.b2_refine.specs.declared.choice.Choice.{Choice}
use Rattle.b2_refine.specs.declared.choice.Choice.TheVariants.{One, None, Ambiguous}

-- the conditions that count: that of a sole alternative is empty
abbrev pub counted : List (List Pair) → List (List Pair)
counted [] = []
counted (condition ∷ []) = [] ∷ []
counted (condition ∷ next ∷ more) = condition ∷ next ∷ more

-- whether an alternative is viable, by its place from 0: the full set of the request has its condition
abbrev pub is_viable : List Pair → List (List Pair) → ℕ → Bool
is_viable full conditions place = option_map_or (has_all full) (slice_get conditions place) false

-- whether a condition is a strict subset of another
abbrev pub is_strict_subset : List Pair → List Pair → Bool
is_strict_subset smaller larger = has_all larger smaller && not (has_all smaller larger)

-- whether an alternative is better than another: the other's condition is a strict subset of this one's
abbrev pub is_better : List (List Pair) → ℕ → ℕ → Bool
is_better conditions place other =
    option_map_or (λ larger. option_map_or (λ smaller. is_strict_subset smaller larger) (slice_get conditions other) false) (slice_get conditions place) false

-- the alternative is chosen: it is viable, and better than every other viable one
pub record IsChosen (full : List Pair) (conditions : List (List Pair)) (place : ℕ) : Type 0 where
  pub viable : is_viable full conditions place ≡ true
  pub best : (other : ℕ) → is_viable full conditions other ≡ true → other ≢ place → is_better conditions place other ≡ true

-- whether two alternatives clash: both are viable, and neither is better
abbrev pub clashes : List Pair → List (List Pair) → ℕ → ℕ → Bool
clashes full conditions i k = is_viable full conditions i && is_viable full conditions k && not (is_better conditions i k) && not (is_better conditions k i)

-- they are the first two that clash: no two with a lower first number do, and none with this first and a lower second one
pub record IsFirstClash (full : List Pair) (conditions : List (List Pair)) (i k : ℕ) : Type 0 where
  pub order : i < k
  pub clash : clashes full conditions i k ≡ true
  pub least_first : (m n : ℕ) → m < n → clashes full conditions m n ≡ true → i ≤ m
  pub least_second : (n : ℕ) → i < n → clashes full conditions i n ≡ true → k ≤ n

-- the choice among alternatives, numbered from 1: none where none is viable, one where it is chosen, and else the first
-- two that clash
abbrev pub IsChoiceOf : List Pair → List (List Pair) → Choice → Type 0
IsChoiceOf full conditions None = (place : ℕ) → is_viable full conditions place ≡ false
IsChoiceOf full conditions (One i) = (place : ℕ) × (i ≡ suc place) × IsChosen full conditions place
IsChoiceOf full conditions (Ambiguous i k) =
    ((place : ℕ) → ¬ IsChosen full conditions place) × ((m : ℕ) × ((n : ℕ) × (i ≡ suc m) × (k ≡ suc n) × IsFirstClash full conditions m n))

-- the choice among alternatives with these conditions
abbrev pub IsChoice : List Pair → List (List Pair) → Choice → Type 0
IsChoice full conditions choice = IsChoiceOf full (counted conditions) choice
