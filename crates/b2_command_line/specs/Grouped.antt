-- `-n` within a group of letters, where it may not stand.
use Rattle.std.specs.Prelude.{ℕ, ◌==◌, ◌&&◌, ◌||◌, Bool, true, false, not, List, [], ◌∷◌, if◌then◌else◌, codes}
use Rattle.std.specs.Str.{bytes_eq}
use Rattle.b2_command_line.specs.Words.{Word, hyphen, small_j}

abbrev pub small_n : ℕ
small_n = 110

-- whether an `n` stands before any `j`
unfoldable pub has_n : Word → Bool
has_n [] = false
has_n (letter ∷ rest) = if letter == small_n then true else if letter == small_j then false else has_n rest

-- whether the word is a group of two letters or more, and `n` is one of them
abbrev pub is_grouped : Word → Bool
is_grouped [] = false
is_grouped (byte ∷ []) = false
is_grouped (byte ∷ head ∷ []) = false
is_grouped (byte ∷ head ∷ next ∷ rest) = byte == hyphen && (not (head == hyphen) && has_n (head ∷ next ∷ rest))

-- whether a word before the first `--` is such a group
unfoldable pub any_grouped : List Word → Bool
any_grouped [] = false
any_grouped (word ∷ rest) = if bytes_eq word (codes "--") then false else is_grouped word || any_grouped rest
