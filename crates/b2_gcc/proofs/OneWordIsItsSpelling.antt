-- The bytes of a list of one word are that word's spelling and nothing else; for the command in the build text.
use Rattle.std.proofs.Common.{◌≡◌, ℕ, List, [], ◌∷◌, ◌++◌, ◌∙◌}
use Rattle.std.proofs.lemmas.List.{append-nil}
use Rattle.jam_spelling.specs.Spelling.{spelling, bytes_of}
use Rattle.jam_spelling.specs.LexemeLists.{word}

-- one word is written as its spelling alone
pub one_word : (text : List ℕ) → bytes_of (word text ∷ []) ≡ spelling (word text)
one_word text = append-nil (spelling (word text) ++ []) ∙ append-nil (spelling (word text))
