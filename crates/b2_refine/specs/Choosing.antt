use Rattle.std.specs.Prelude.{◌≡◌, ℕ, ◌<◌, ◌==◌, Bool, true, false, not, ◌&&◌, List, Option, Some, None}
use Rattle.b2_props.specs.Sets.{Pair}
use Rattle.b2_refine.specs.Choices.{is_viable, is_better, clashes}

-- what the search for the chosen alternative keeps

-- whether an alternative is better than the best one so far, where there is one
abbrev pub improves : List (List Pair) → ℕ → Option ℕ → Bool
improves conditions place None = true
improves conditions place (Some other) = is_better conditions place other

-- of the first some alternatives none is viable, or this one is, and no viable one is better
abbrev pub IsFavourite : List Pair → List (List Pair) → ℕ → Option ℕ → Type 0
IsFavourite full conditions count None = (other : ℕ) → other < count → is_viable full conditions other ≡ false
IsFavourite full conditions count (Some place) =
    (is_viable full conditions place ≡ true) × ((other : ℕ) → other < count → is_viable full conditions other ≡ true → is_better conditions other place ≡ false)

-- whether another viable alternative keeps this one from being chosen
abbrev pub is_rival : List Pair → List (List Pair) → ℕ → ℕ → Bool
is_rival full conditions place other = not (other == place) && is_viable full conditions other && not (is_better conditions place other)

-- a later alternative clashes with this one, and none between them does
pub record ClashesFirst (full : List Pair) (conditions : List (List Pair)) (place other : ℕ) : Type 0 where
  pub after : place < other
  pub clash : clashes full conditions place other ≡ true
  pub least : (k : ℕ) → place < k → k < other → clashes full conditions place k ≡ false
