-- What a word stands for.
use Rattle.std.specs.Prelude.{ℕ, zero, suc, List, [], ◌∷◌, Result, Ok, Err, if◌then◌else◌}
use Rattle.b2_base.specs.declared.expand_fault.ExpandFault.{ExpandFault}
use Rattle.b2_base.specs.declared.expand_fault.ExpandFault.TheVariants as faults
use Rattle.b2_base.specs.Results.{and_then}
use Rattle.jam_expand.specs.Limits.{Answer, within}
use Rattle.jam_expand.specs.Words.{Piece, text, part, pieces_of, deeper}
use Rattle.jam_expand.specs.Products.{product}
use Rattle.jam_expand.specs.Values.{values_of_all}

-- the list of a piece: literal text is one element, and a part is what `values` says of its inside
abbrev pub list_of : (List ℕ → Answer) → Piece → Answer
list_of values (text bytes) = Ok (bytes ∷ [])
list_of values (part inside) = values inside

-- the lists of the pieces, or the first fault among them
abbrev pub lists_of : (List ℕ → Answer) → List Piece → Result (List (List (List ℕ))) ExpandFault
lists_of values [] = Ok []
lists_of values (piece ∷ pieces) = and_then (λ list. and_then (λ lists. Ok (list ∷ lists)) (lists_of values pieces)) (list_of values piece)

-- the elements of pieces, and those of a word, where `values` says what the inside of a part gives
abbrev pub product_of_pieces : (List ℕ → Answer) → List Piece → Answer
product_of_pieces values pieces = and_then (λ lists. within (product lists)) (lists_of values pieces)

abbrev pub product_of : (List ℕ → Answer) → List ℕ → Answer
product_of values word = product_of_pieces values (pieces_of word)

-- The elements of a word whose parts are nested at most so many deep. The inside of a part is expanded first, and each of
-- its elements is read as a name with index and modifiers.
unfoldable pub elements_at : ℕ → (List ℕ → List (List ℕ)) → List ℕ → Answer
elements_at zero names word = within (word ∷ [])
elements_at (suc levels) names word = product_of (λ inside. and_then (values_of_all names) (elements_at levels names inside)) word

-- The elements of a word for what the names stand for. Parts that are nested more than 16 deep are refused before all else.
abbrev pub expansion : (List ℕ → List (List ℕ)) → List ℕ → Answer
expansion names word = if deeper 16 word then Err faults.TooDeep else elements_at 16 names word
