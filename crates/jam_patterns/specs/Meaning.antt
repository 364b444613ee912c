use Rattle.std.specs.Prelude.{◌<◌, ℕ, List, IsCharBoundary}
use Rattle.regex.specs.Patterns.{Re, Matches}

-- no part of the text that starts at a character matches
abbrev pub HasNoMatch : Re → List ℕ → Type 0
HasNoMatch re text = (i j : ℕ) → IsCharBoundary text i → ¬ (Matches text re i j)

-- The part from `start` to `end` matches, and none that starts at an earlier character does.
pub record IsLeftmost (re : Re) (text : List ℕ) (start end : ℕ) : Type 0 where
  pub matches : Matches text re start end
  pub leftmost : (i j : ℕ) → i < start → IsCharBoundary text i → ¬ (Matches text re i j)
