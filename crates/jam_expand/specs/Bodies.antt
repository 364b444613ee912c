-- The body of an action, and the text that it stands for.
use Rattle.std.specs.Prelude.{ℕ, ◌-◌, List, [], ◌∷◌, ◌++◌, filter, length, take, drop, Result, Ok}
use Rattle.std.specs.List.{slice_split, join_with_byte, prefix_len, suffix_len}
use Rattle.b2_base.specs.Bytes.{is_white}
use Rattle.b2_base.specs.declared.expand_fault.ExpandFault.{ExpandFault}
use Rattle.b2_base.specs.Results.{and_then}
use Rattle.jam_expand.specs.Limits.{Answer, within}
use Rattle.jam_expand.specs.Expansions.{expansion}

-- The body's words: it is cut at each byte of white space. A word is empty where two of them meet.
abbrev pub words : List ℕ → List (List ℕ)
words = slice_split is_white

-- the body's white space, in order
abbrev pub spaces : List ℕ → List ℕ
spaces = filter is_white

-- texts with white space between them
abbrev pub interleaved : List (List ℕ) → List ℕ → List ℕ
interleaved [] spaces = []
interleaved (text ∷ more) [] = text
interleaved (text ∷ more) (space ∷ spaces) = text ++ space ∷ interleaved more spaces

-- a text without the white space at its end
abbrev pub without_end : List ℕ → List ℕ
without_end text = take (length text - suffix_len is_white text) text

-- a text without the white space at both ends
abbrev pub trimmed : List ℕ → List ℕ
trimmed text = without_end (drop (prefix_len is_white text) text)

-- The texts of the words, after those of earlier ones: each is its word's elements with one space between them. As a
-- list they are within the limit, each time one is added.
unfoldable pub body_texts : (List ℕ → List (List ℕ)) → List (List ℕ) → List (List ℕ) → Answer
body_texts names texts [] = Ok texts
body_texts names texts (word ∷ more) = and_then (λ elements. and_then (λ longer. body_texts names longer more) (within (texts ++ join_with_byte 32 elements ∷ []))) (expansion names word)

-- what a body stands for: its white space stays, but for both ends of the result
abbrev pub body_expansion : (List ℕ → List (List ℕ)) → List ℕ → Result (List ℕ) ExpandFault
body_expansion names body = and_then (λ texts. Ok (trimmed (interleaved texts (spaces body)))) (body_texts names [] (words body))
