-- What was found of a word when it was read is what its expansion finds.
use Rattle.std.proofs.Common.{◌≡◌, ℕ, ◌<◌, ◌≤◌, ◌+◌, List, [], ◌∷◌, ◌++◌, length, drop, get_or, map, ap, sym, ◌∙◌, arith, subst, cond, Ok, Err, ◌⊎◌}
use Rattle.std.proofs.lemmas.List.{append_assoc, append-nil, append_cancel_right, drop_more, length-map, map-append}
use Rattle.std.proofs.Math.ListN.{drop_of_length-le, get_or-map}
use Rattle.b2_base.specs.declared.expand_fault.ExpandFault.{ExpandFault}
use Rattle.b2_base.specs.declared.expand_fault.ExpandFault.TheVariants as faults
use Rattle.jam_expand.specs.declared.piece.Piece as held
use Rattle.jam_expand.specs.declared.word.OwnPiece as own
use Rattle.b2_base.specs.Results.{and_then}
use Rattle.jam_expand.specs.Expansions.{list_of, lists_of, product_of_pieces, elements_at, expansion}
use Rattle.jam_expand.specs.Limits.{Answer, within}
use Rattle.jam_expand.specs.OwnPieces.{owned, IsVariable, IsCutIn}
use Rattle.jam_expand.specs.Products.{product}
use Rattle.jam_expand.specs.Shown.{shown}
use Rattle.jam_expand.specs.Values.{values_of_all}
use Rattle.jam_expand.specs.Words.{Piece, pieces_of}
use Rattle.jam_expand.proofs.PiecesExpandOneByOne.{after_lists, found_piece, piece_fault, found_all, held_at, held_within, elements_more}
use Rattle.jam_expand.proofs.PlainWordsExpandToThemselves.{name_is_its_list}

-- the name between `$(` and `)` is the one that was found
pub variable_is_list : (names : List ℕ → List (List ℕ)) (word name : List ℕ) → IsVariable word → word ≡ 36 ∷ 40 ∷ (name ++ 41 ∷ []) → expansion names word ≡ within (names name)
variable_is_list names word name h e =
    let same : h.name ≡ name = append_cancel_right h.name name (41 ∷ []) (ap (λ s. drop 2 s) (sym h.word_is ∙ e)) in
    ap (expansion names) h.word_is ∙ name_is_its_list names h.name h.plain h.small ∙ ap (λ n. within (names n)) same

-- the pieces, copied one by one
pub own_more : (word : List ℕ) (items : List held.Piece) (made : List own.OwnPiece) (place : ℕ) (d : held.Piece) (one : own.OwnPiece) → map shown items ≡ pieces_of word → place < length items
    → map owned made ++ drop place (pieces_of word) ≡ pieces_of word → owned one ≡ shown (get_or items place d) → map owned (made ++ one ∷ []) ++ drop (place + 1) (pieces_of word) ≡ pieces_of word
own_more word items made place d one e l so_far is =
    let pieces = pieces_of word in
    let next : owned one ≡ get_or pieces place (shown d) = is ∙ held_at word items place d e in
    ap (λ s. s ++ drop (place + 1) pieces) (map-append owned made (one ∷ [])) ∙ append_assoc (map owned made) (owned one ∷ []) (drop (place + 1) pieces)
    ∙ ap (λ s. map owned made ++ s) (ap (λ s. s ∷ drop (place + 1) pieces) next ∙ sym (drop_more pieces place (shown d) (held_within word items place e l))) ∙ so_far

pub own_all : (word : List ℕ) (items : List held.Piece) (made : List own.OwnPiece) (place : ℕ) → map shown items ≡ pieces_of word → length items ≤ place
    → map owned made ++ drop place (pieces_of word) ≡ pieces_of word → map owned made ≡ pieces_of word
own_all word items made place e end so_far =
    sym (append-nil (map owned made)) ∙ ap (λ s. map owned made ++ s) (sym (drop_of_length-le (pieces_of word) (subst (λ s. length s ≤ place) e (omega (arith, end, length-map items shown))))) ∙ so_far

-- the lists of these pieces, found one by one
owned_at : (items : List own.OwnPiece) (place : ℕ) (d : own.OwnPiece) (piece : Piece) → piece ≡ owned (get_or items place d) → piece ≡ get_or (map owned items) place (owned d)
owned_at items place d piece e = e ∙ sym (get_or-map owned items place d)

owned_within : (items : List own.OwnPiece) (place : ℕ) → place < length items → place < length (map owned items)
owned_within items place l = omega (arith, l, length-map items owned)

pub own_fault : (values : List ℕ → Answer) (found : List (List (List ℕ))) (items : List own.OwnPiece) (place : ℕ) (d : own.OwnPiece) (piece : Piece) (fault : ExpandFault) → place < length items
    → piece ≡ owned (get_or items place d) → after_lists found (lists_of values (drop place (map owned items))) ≡ lists_of values (map owned items)
    → (fault ≡ faults.OutOfMemory) ⊎ (list_of values piece ≡ Err fault) → (fault ≡ faults.OutOfMemory) ⊎ (product_of_pieces values (map owned items) ≡ Err fault)
own_fault values found items place d piece fault l is so_far h =
    piece_fault values found (map owned items) place piece (owned d) fault (owned_within items place l) (owned_at items place d piece is) so_far h

pub own_list : (values : List ℕ → Answer) (found : List (List (List ℕ))) (items : List own.OwnPiece) (place : ℕ) (d : own.OwnPiece) (piece : Piece) (list : List (List ℕ)) → place < length items
    → piece ≡ owned (get_or items place d) → after_lists found (lists_of values (drop place (map owned items))) ≡ lists_of values (map owned items)
    → list_of values piece ≡ Ok list → after_lists (found ++ list ∷ []) (lists_of values (drop (place + 1) (map owned items))) ≡ lists_of values (map owned items)
own_list values found items place d piece list l is so_far h =
    found_piece values found (map owned items) place piece (owned d) list (owned_within items place l) (owned_at items place d piece is) h ∙ so_far

pub own_lists : (values : List ℕ → Answer) (found : List (List (List ℕ))) (items : List own.OwnPiece) (place : ℕ) → length items ≤ place
    → after_lists found (lists_of values (drop place (map owned items))) ≡ lists_of values (map owned items) → product_of_pieces values (map owned items) ≡ within (product found)
own_lists values found items place end so_far = found_all values found (map owned items) place (omega (arith, end, length-map items owned)) so_far

-- a word's own pieces give what the word stands for
pub cut_is_product : (names : List ℕ → List (List ℕ)) (word : List ℕ) (pieces : List own.OwnPiece) → IsCutIn word pieces
    → expansion names word ≡ product_of_pieces (λ inside. and_then (values_of_all names) (elements_at 15 names inside)) (map owned pieces)
cut_is_product names word pieces h =
    ap (λ deep. cond deep (Err faults.TooDeep) (elements_at 16 names word)) h.flat ∙ elements_more 16 names word (λ e. omega (arith, e))
    ∙ ap (product_of_pieces (λ inside. and_then (values_of_all names) (elements_at 15 names inside))) (sym h.pieces_are)
