-- The raw bodies of actions.
use Rattle.std.specs.Prelude.{◌≡◌, ℕ, ◌<◌, ◌≤◌, ◌==◌, List, length, slice_index, slice_range, count_by}
use Rattle.jam_lexer.specs.Signs.{left_brace, right_brace}

-- how often a byte stands between two places
abbrev pub count_of : ℕ → List ℕ → ℕ → ℕ → ℕ
count_of sign bytes from to = count_by (λ byte. byte == sign) (slice_range bytes from to)

-- no `}` between the places is unmatched: after each place at least as many `{` as `}` have stood
abbrev pub IsMatched : List ℕ → ℕ → ℕ → Type 0
IsMatched bytes from to = (k : ℕ) → from ≤ k → k ≤ to → count_of right_brace bytes from k ≤ count_of left_brace bytes from k

-- the body between the places: after it stands the first `}` that none of its `{` matches
pub record IsBody (bytes : List ℕ) (from to : ℕ) : Type 0 where
  pub order : from ≤ to
  pub within : to < length bytes
  pub matched : IsMatched bytes from to
  pub all_closed : count_of right_brace bytes from to ≡ count_of left_brace bytes from to
  pub brace : slice_index bytes to ≡ right_brace
