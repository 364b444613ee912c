-- The pieces of a word as the program holds them.
use Rattle.std.specs.Prelude.{◌≡◌, ℕ, ◌+◌, ◌≤◌, List, length, take, drop, Some}
use Rattle.std.specs.Str.{IsCharBoundary}
use Rattle.jam_expand.specs.declared.piece.Piece as held
use Rattle.jam_expand.specs.declared.piece.Piece.TheVariants.{Literal, Part}
use Rattle.jam_expand.specs.Words.{Piece, text, part, inside_len}

abbrev pub shown : held.Piece → Piece
shown (Literal bytes) = text bytes.now
shown (Part inside) = part inside.now

-- a part that begins at this place has this inside, and ends before that place
pub record IsPartAt (word : List ℕ) (at : ℕ) (inside : List ℕ) (after : ℕ) : Type 0 where
  pub len : inside_len (drop at word) ≡ Some (length inside)
  pub inside_is : inside ≡ take (length inside) (drop (at + 2) word)
  pub after_is : after ≡ at + length inside + 3
  pub within : after ≤ length word
  pub starts : IsCharBoundary word at
  pub ends : IsCharBoundary word after
