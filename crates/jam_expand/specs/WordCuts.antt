-- The cut of a word, said as a relation, and its pieces as they stand in the word.
use Rattle.std.specs.Prelude.{◌≡◌, ◌≢◌, ℕ, List, [], ◌∷◌, ◌++◌}
use Rattle.jam_expand.specs.Words.{Piece, text, part, before_pieces}

-- a piece as it stands in a word: a part has `$(` (36 and 40) and `)` (41) round its inside
abbrev pub written : Piece → List ℕ
written (text bytes) = bytes
written (part inside) = 36 ∷ 40 ∷ (inside ++ 41 ∷ [])

-- each `(` (40) has a `)` (41) of its own after it, and each `)` a `(` before it
pub data IsBalanced : List ℕ → Type 0 where
  no_bytes : IsBalanced []
  one_byte : (byte : ℕ) (rest : List ℕ) → byte ≢ 40 → byte ≢ 41 → IsBalanced rest → IsBalanced (byte ∷ rest)
  one_pair : (inside rest : List ℕ) → IsBalanced inside → IsBalanced rest → IsBalanced (40 ∷ (inside ++ 41 ∷ rest))

-- no part begins here
abbrev pub BeginsNoPart : List ℕ → Type 0
BeginsNoPart word = (inside rest : List ℕ) → IsBalanced inside → word ≢ 36 ∷ 40 ∷ (inside ++ 41 ∷ rest)

-- no part begins anywhere in the word
abbrev pub HasNoPart : List ℕ → Type 0
HasNoPart word = (before rest : List ℕ) → word ≡ before ++ rest → BeginsNoPart rest

-- no `$(` (36 and 40) stands in the word
abbrev pub HasNoSigns : List ℕ → Type 0
HasNoSigns word = (before rest : List ℕ) → word ≢ before ++ 36 ∷ 40 ∷ rest

-- From left to right: a part where one begins, and a literal byte elsewhere. Literal bytes side by side are one piece.
pub data IsCutInto : List ℕ → List Piece → Type 0 where
  at_end : IsCutInto [] []
  at_literal : (byte : ℕ) (rest : List ℕ) (pieces : List Piece) → BeginsNoPart (byte ∷ rest) → IsCutInto rest pieces → IsCutInto (byte ∷ rest) (before_pieces byte pieces)
  at_part : (inside rest : List ℕ) (pieces : List Piece) → IsBalanced inside → IsCutInto rest pieces → IsCutInto (36 ∷ 40 ∷ (inside ++ 41 ∷ rest)) (part inside ∷ pieces)
