use Rattle.std.specs.Prelude.{◌≡◌, ◌≢◌, ℕ, ◌==◌, nat_le, Bool, false, not, ◌&&◌, ◌||◌, List, [], ◌∷◌, ◌++◌, IsTrue, if◌then◌else◌}
use Rattle.b2_base.specs.Bytes.{Lacks}

-- One of the members of a class is the character; `a-c` (45 is the dash) stands for the characters from `a` to `c`.
abbrev pub is_member : List ℕ → ℕ → Bool
is_member [] character = false
is_member (low ∷ []) character = low == character
is_member (low ∷ dash ∷ []) character = low == character || dash == character
is_member (low ∷ dash ∷ high ∷ more) character =
    if dash == 45
    then (nat_le low character && nat_le character high) || is_member more character
    else low == character || is_member (dash ∷ high ∷ more) character

-- a class takes its members, and one that begins with `^` (94) all other characters
abbrev pub is_taken : List ℕ → ℕ → Bool
is_taken [] character = false
is_taken (first ∷ members) character = if first == 94 then not (is_member members character) else is_member (first ∷ members) character

-- A character that stands for itself: no `*` (42) and no `?` (63), a backslash (92) only at the end of the pattern, and
-- a `[` (91) only where no `]` (93) stands after it.
pub record IsItself (character : ℕ) (rest : List ℕ) : Type 0 where
  pub run : character ≢ 42
  pub any : character ≢ 63
  pub escape : character ≡ 92 → rest ≡ []
  pub class : character ≡ 91 → Lacks 93 rest

-- The first piece of a pattern takes a character, and `rest` is the pattern after that piece.
pub data Takes : List ℕ → ℕ → List ℕ → Type 0 where
  any : (character : ℕ) (rest : List ℕ) → Takes (63 ∷ rest) character rest
  escaped : (character : ℕ) (rest : List ℕ) → Takes (92 ∷ character ∷ rest) character rest
  class : (members : List ℕ) (character : ℕ) (rest : List ℕ) → Lacks 93 members → IsTrue (is_taken members character) → Takes (91 ∷ (members ++ 93 ∷ rest)) character rest
  itself : (character : ℕ) (rest : List ℕ) → IsItself character rest → Takes (character ∷ rest) character rest

-- The pattern matches the whole text, both as characters. A `*` takes any run.
pub data Match : List ℕ → List ℕ → Type 0 where
  ends : Match [] []
  run : (pattern skipped text : List ℕ) → Match pattern text → Match (42 ∷ pattern) (skipped ++ text)
  one : (pattern rest text : List ℕ) (character : ℕ) → Takes pattern character rest → Match rest text → Match pattern (character ∷ text)
