-- What may stand between two tokens: white space and comments.
use Rattle.std.specs.Prelude.{◌≡◌, ◌≢◌, ℕ, suc, ◌<◌, ◌≤◌, false, ◌⊎◌, List, length, slice_index, IsTrue}
use Rattle.jam_lexer.specs.Signs.{hash}
use Rattle.b2_base.specs.Bytes.{is_white, line_feed}

-- A `#` stands between the two places with no line feed after it: its comment goes on at the second place.
pub record IsInComment (bytes : List ℕ) (from to : ℕ) : Type 0 where
  pub sign : ℕ
  pub after : from ≤ sign
  pub before : sign < to
  pub is_hash : slice_index bytes sign ≡ hash
  pub one_line : (k : ℕ) → sign < k → k < to → slice_index bytes k ≢ line_feed

-- each byte between the two places is white space, or belongs to a comment that begins between them
abbrev pub IsGap : List ℕ → ℕ → ℕ → Type 0
IsGap bytes from to = (k : ℕ) → from ≤ k → k < to → IsTrue (is_white (slice_index bytes k)) ⊎ IsInComment bytes from (suc k)

-- a word begins at the second place: after a gap, at a byte that is neither white space nor in a comment nor begins one
pub record BeginsWord (bytes : List ℕ) (from start : ℕ) : Type 0 where
  pub after : from ≤ start
  pub within : start < length bytes
  pub gap : IsGap bytes from start
  pub no_comment : IsInComment bytes from start → ⊥
  pub no_white : is_white (slice_index bytes start) ≡ false
  pub no_hash : slice_index bytes start ≢ hash
