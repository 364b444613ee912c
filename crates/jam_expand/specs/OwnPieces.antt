-- The pieces of a word that is read once, and how it is read.
use Rattle.std.specs.Prelude.{◌≡◌, ◌≢◌, ◌<◌, ℕ, true, false, List, [], ◌∷◌, ◌++◌, length, map, All}
use Rattle.jam_expand.specs.declared.word.OwnPiece as own
use Rattle.jam_expand.specs.declared.word.OwnPiece.TheVariants.{Literal, Part}
use Rattle.jam_expand.specs.declared.word.WordKind.{WordKind}
use Rattle.jam_expand.specs.declared.word.WordKind.TheVariants as kinds
use Rattle.jam_expand.specs.Limits.{limit}
use Rattle.jam_expand.specs.PlainNames.{IsPlainName}
use Rattle.jam_expand.specs.Words.{Piece, text, part, pieces_of, deeper}

abbrev pub owned : own.OwnPiece → Piece
owned (Literal bytes) = text bytes
owned (Part inside) = part inside

-- one bare name in `$(` (36 and 40) and `)` (41)
pub record IsVariable (word : List ℕ) : Type 0 where
  pub name : List ℕ
  pub word_is : word ≡ 36 ∷ 40 ∷ (name ++ 41 ∷ [])
  pub plain : IsPlainName name
  pub small : length name < limit

-- the pieces are those of the word, and no part is nested too deep
pub record IsCutIn (word : List ℕ) (pieces : List own.OwnPiece) : Type 0 where
  pub flat : deeper 16 word ≡ false
  pub pieces_are : map owned pieces ≡ pieces_of word

-- what it means that a word is of a kind
abbrev pub IsOfKind : List ℕ → WordKind → Type 0
IsOfKind word kinds.Plain = All (λ byte. byte ≢ 36) word
IsOfKind word kinds.Variable = IsVariable word
IsOfKind word (kinds.Cut pieces) = IsCutIn word pieces.items
IsOfKind word kinds.TooDeep = deeper 16 word ≡ true
