-- A word, cut into literal text and parts.
use Rattle.std.specs.Prelude.{ℕ, zero, suc, ◌+◌, ◌==◌, Bool, true, false, ◌||◌, List, [], ◌∷◌, drop, take, Option, Some, None, if◌then◌else◌}

-- literal text, or the inside of a `$(` .. `)`
pub data Piece : Type 0 where
  text : List ℕ → Piece
  part : List ℕ → Piece

-- How many bytes stand before the `)` (41) that closes, where `at` of them were passed and `depth` more `(` (40) are open.
abbrev pub closing : ℕ → ℕ → List ℕ → Option ℕ
closing depth at [] = None
closing zero at (byte ∷ bytes) = if byte == 41 then Some at else (if byte == 40 then closing 1 (at + 1) bytes else closing 0 (at + 1) bytes)
closing (suc depth) at (byte ∷ bytes) =
    if byte == 41 then closing depth (at + 1) bytes
    else (if byte == 40 then closing (suc (suc depth)) (at + 1) bytes else closing (suc depth) (at + 1) bytes)

-- how long the inside of a part is that begins here with `$(` (36 and 40), if one does
abbrev pub inside_len : List ℕ → Option ℕ
inside_len [] = None
inside_len (dollar ∷ []) = None
inside_len (dollar ∷ next ∷ bytes) = if dollar == 36 then (if next == 40 then closing 0 0 bytes else None) else None

-- literal text as pieces; there is none where it is empty
abbrev pub literal_of : List ℕ → List Piece
literal_of [] = []
literal_of (byte ∷ bytes) = text (byte ∷ bytes) ∷ []

-- a literal byte before the pieces
abbrev pub before_pieces : ℕ → List Piece → List Piece
before_pieces byte [] = text (byte ∷ []) ∷ []
before_pieces byte (text bytes ∷ pieces) = text (byte ∷ bytes) ∷ pieces
before_pieces byte (part inside ∷ pieces) = text (byte ∷ []) ∷ part inside ∷ pieces

-- the pieces from a byte on: a part with what stands after it, or a literal byte; `after` gives the pieces that follow,
-- once so many more bytes are skipped
abbrev pub piece_at : Option ℕ → ℕ → List ℕ → (ℕ → List Piece) → List Piece
piece_at None byte bytes after = before_pieces byte (after 0)
piece_at (Some len) byte bytes after = part (take len (drop 1 bytes)) ∷ after (len + 2)

-- The pieces of a word after some bytes that belong to a part and are skipped.
abbrev pub pieces_after : ℕ → List ℕ → List Piece
pieces_after skipped [] = []
pieces_after zero (byte ∷ bytes) = piece_at (inside_len (byte ∷ bytes)) byte bytes (λ skipped. pieces_after skipped bytes)
pieces_after (suc skipped) (byte ∷ bytes) = pieces_after skipped bytes

-- the pieces of a word
abbrev pub pieces_of : List ℕ → List Piece
pieces_of word = pieces_after 0 word

-- one of the parts passes
abbrev pub any_part : (List ℕ → Bool) → List Piece → Bool
any_part test [] = false
any_part test (text bytes ∷ pieces) = any_part test pieces
any_part test (part inside ∷ pieces) = test inside || any_part test pieces

-- Where so many parts may still be nested, a part with this inside is nested too deep.
unfoldable pub too_deep : ℕ → List ℕ → Bool
too_deep zero inside = true
too_deep (suc levels) inside = any_part (too_deep levels) (pieces_of inside)

-- the parts of a word are nested more than so many deep
abbrev pub deeper : ℕ → List ℕ → Bool
deeper levels word = any_part (too_deep levels) (pieces_of word)

-- the bytes of a piece, without the signs around a part
abbrev pub bytes_of : Piece → List ℕ
bytes_of (text bytes) = bytes
bytes_of (part inside) = inside
