-- The lists of a word's pieces, found one by one, are those of the word, and so are a fault and too great a depth.
use Rattle.std.proofs.Common.{◌≡◌, ◌≢◌, ℕ, ◌<◌, ◌≤◌, ◌+◌, ◌-◌, Bool, true, false, ◌||◌, suc, zero, List, [], ◌∷◌, ◌++◌, length, drop, get_or, map, refl, ap, sym, ◌∙◌, arith, subst, Option, Some, None, Result, Ok, Err, ◌⊎◌, inl, inr}
use Rattle.std.specs.List.{AllByRecursion}
use Rattle.std.proofs.lemmas.List.{append_assoc, append-nil, drop_more}
use Rattle.std.proofs.lemmas.List.Elements.{All-take, All-drop, All-cons}
use Rattle.std.proofs.Math.ListN.{drop_of_length-le, get_or-map}
use Rattle.std.proofs.lemmas.List.{length-map}
use Rattle.jam_expand.specs.declared.piece.Piece as held
use Rattle.jam_expand.specs.Shown.{shown}
use Rattle.b2_base.specs.Bytes.{HasNoZero}
use Rattle.b2_base.specs.declared.expand_fault.ExpandFault.{ExpandFault}
use Rattle.b2_base.specs.declared.expand_fault.ExpandFault.TheVariants as faults
use Rattle.b2_base.specs.Results.{and_then}
use Rattle.jam_expand.specs.Limits.{Answer, within}
use Rattle.jam_expand.specs.Words.{Piece, text, part, inside_len, before_pieces, piece_at, pieces_after, pieces_of, any_part, too_deep, bytes_of}
use Rattle.jam_expand.specs.Products.{product}
use Rattle.jam_expand.specs.Values.{values_of_all}
use Rattle.jam_expand.specs.Expansions.{list_of, lists_of, product_of_pieces, product_of, elements_at}

-- lists that were found before others
pub after_lists : List (List (List ℕ)) → Result (List (List (List ℕ))) ExpandFault → Result (List (List (List ℕ))) ExpandFault
after_lists found (Ok lists) = Ok (found ++ lists)
after_lists found (Err fault) = Err fault

found_more : (found : List (List (List ℕ))) (list : List (List ℕ)) (rest : Result (List (List (List ℕ))) ExpandFault) → after_lists found (and_then (λ lists. Ok (list ∷ lists)) rest) ≡ after_lists (found ++ list ∷ []) rest
unfolding after_lists
found_more found list (Ok lists) = ap (λ s. Ok s) (sym (append_assoc found (list ∷ []) lists))
found_more found list (Err fault) = refl

pub found_nothing : (rest : Result (List (List (List ℕ))) ExpandFault) → after_lists [] rest ≡ rest
unfolding after_lists
found_nothing (Ok lists) = refl
found_nothing (Err fault) = refl

-- one more piece
pub found_piece : (values : List ℕ → Answer) (found : List (List (List ℕ))) (pieces : List Piece) (place : ℕ) (piece d : Piece) (list : List (List ℕ)) → place < length pieces → piece ≡ get_or pieces place d → list_of values piece ≡ Ok list
    → after_lists (found ++ list ∷ []) (lists_of values (drop (place + 1) pieces)) ≡ after_lists found (lists_of values (drop place pieces))
found_piece values found pieces place piece d list inside here e =
    sym (ap (λ s. after_lists found (lists_of values s)) (drop_more pieces place d inside ∙ ap (λ s. s ∷ drop (place + 1) pieces) (sym here))
    ∙ ap (λ r. after_lists found (and_then (λ first. and_then (λ lists. Ok (first ∷ lists)) (lists_of values (drop (place + 1) pieces))) r)) e
    ∙ found_more found list (lists_of values (drop (place + 1) pieces)))

pub piece_fault : (values : List ℕ → Answer) (found : List (List (List ℕ))) (pieces : List Piece) (place : ℕ) (piece d : Piece) (fault : ExpandFault) → place < length pieces → piece ≡ get_or pieces place d
    → after_lists found (lists_of values (drop place pieces)) ≡ lists_of values pieces
    → (fault ≡ faults.OutOfMemory) ⊎ (list_of values piece ≡ Err fault) → (fault ≡ faults.OutOfMemory) ⊎ (product_of_pieces values pieces ≡ Err fault)
unfolding after_lists
piece_fault values found pieces place piece d fault inside here so_far (inl e) = inl e
piece_fault values found pieces place piece d fault inside here so_far (inr e) =
    let all : lists_of values pieces ≡ Err fault =
    sym so_far ∙ ap (λ s. after_lists found (lists_of values s)) (drop_more pieces place d inside ∙ ap (λ s. s ∷ drop (place + 1) pieces) (sym here))
    ∙ ap (λ r. after_lists found (and_then (λ first. and_then (λ lists. Ok (first ∷ lists)) (lists_of values (drop (place + 1) pieces))) r)) e in
    inr (ap (λ r. and_then (λ lists. within (product lists)) r) all)

pub found_all : (values : List ℕ → Answer) (found : List (List (List ℕ))) (pieces : List Piece) (place : ℕ) → length pieces ≤ place
    → after_lists found (lists_of values (drop place pieces)) ≡ lists_of values pieces → product_of_pieces values pieces ≡ within (product found)
unfolding after_lists
found_all values found pieces place end so_far =
    ap (λ r. and_then (λ lists. within (product lists)) r)
    (sym so_far ∙ ap (λ s. after_lists found (lists_of values s)) (drop_of_length-le pieces end) ∙ ap (λ s. Ok s) (append-nil found))

-- the bytes of the pieces of a word are among those of the word
no_zero_cons : (byte : ℕ) (bytes : List ℕ) → 0 < byte → HasNoZero bytes → HasNoZero (byte ∷ bytes)
no_zero_cons byte bytes h all = All-cons (λ other. 0 < other) byte bytes h all

no_zero_before : (byte : ℕ) (pieces : List Piece) → 0 < byte → AllByRecursion (λ piece. HasNoZero (bytes_of piece)) pieces → AllByRecursion (λ piece. HasNoZero (bytes_of piece)) (before_pieces byte pieces)
no_zero_before byte [] h all = (no_zero_cons byte [] h (λ k d l. absurd (omega (arith, l))), tt)
no_zero_before byte (text bytes ∷ pieces) h all = (no_zero_cons byte bytes h all.0, all.1)
no_zero_before byte (part inside ∷ pieces) h all = (no_zero_cons byte [] h (λ k d l. absurd (omega (arith, l))), all)

no_zero_pieces : (skipped : ℕ) (bytes : List ℕ) → HasNoZero bytes → AllByRecursion (λ piece. HasNoZero (bytes_of piece)) (pieces_after skipped bytes)
no_zero_pieces skipped [] h = tt
no_zero_pieces (suc skipped) (byte ∷ bytes) h = no_zero_pieces skipped bytes (All-drop (λ other. 0 < other) 1 (byte ∷ bytes) h)
no_zero_pieces zero (byte ∷ bytes) h = go (inside_len (byte ∷ bytes)) (λ skipped. no_zero_pieces skipped bytes (All-drop (λ other. 0 < other) 1 (byte ∷ bytes) h))
  where
    go : (len : Option ℕ) → ((skipped : ℕ) → AllByRecursion (λ piece. HasNoZero (bytes_of piece)) (pieces_after skipped bytes)) → AllByRecursion (λ piece. HasNoZero (bytes_of piece)) (piece_at len byte bytes (λ skipped. pieces_after skipped bytes))
    go None more = no_zero_before byte (pieces_after 0 bytes) (h 0 0 (omega arith)) (more 0)
    go (Some len) more = (All-take (λ other. 0 < other) len (drop 1 bytes) (All-drop (λ other. 0 < other) 1 bytes (All-drop (λ other. 0 < other) 1 (byte ∷ bytes) h)), more (len + 2))

at_place : (pieces : List Piece) (place : ℕ) (piece d : Piece) → AllByRecursion (λ other. HasNoZero (bytes_of other)) pieces → place < length pieces → piece ≡ get_or pieces place d → HasNoZero (bytes_of piece)
at_place [] place piece d all l here = absurd (omega (arith, l))
at_place (first ∷ pieces) zero piece d all l here = subst (λ p. HasNoZero (bytes_of p)) (sym here) all.0
at_place (first ∷ pieces) (suc place) piece d all l here = at_place pieces place piece d all.1 (omega (arith, l)) here

pub piece_no_zero : (word : List ℕ) (place : ℕ) (piece d : Piece) → HasNoZero word → place < length (pieces_of word) → piece ≡ get_or (pieces_of word) place d → HasNoZero (bytes_of piece)
piece_no_zero word place piece d h l here = at_place (pieces_of word) place piece d (no_zero_pieces 0 word h) l here

-- a piece of a word as the program holds it
pub held_at : (word : List ℕ) (items : List held.Piece) (place : ℕ) (d : held.Piece) → map shown items ≡ pieces_of word → shown (get_or items place d) ≡ get_or (pieces_of word) place (shown d)
held_at word items place d e = sym (get_or-map shown items place d) ∙ ap (λ s. get_or s place (shown d)) e

pub held_within : (word : List ℕ) (items : List held.Piece) (place : ℕ) → map shown items ≡ pieces_of word → place < length items → place < length (pieces_of word)
held_within word items place e l = subst (λ s. place < length s) e (omega (arith, l, length-map items shown))

-- the pieces of a word, taken one by one as the program holds them
pub held_no_zero : (word : List ℕ) (items : List held.Piece) (place : ℕ) (d : held.Piece) → HasNoZero word → map shown items ≡ pieces_of word → place < length items → HasNoZero (bytes_of (shown (get_or items place d)))
held_no_zero word items place d h e l = piece_no_zero word place (shown (get_or items place d)) (shown d) h (held_within word items place e l) (held_at word items place d e)

pub held_fault : (values : List ℕ → Answer) (found : List (List (List ℕ))) (word : List ℕ) (items : List held.Piece) (place : ℕ) (d : held.Piece) (fault : ExpandFault) → map shown items ≡ pieces_of word → place < length items
    → after_lists found (lists_of values (drop place (pieces_of word))) ≡ lists_of values (pieces_of word)
    → (fault ≡ faults.OutOfMemory) ⊎ (list_of values (shown (get_or items place d)) ≡ Err fault) → (fault ≡ faults.OutOfMemory) ⊎ (product_of values word ≡ Err fault)
held_fault values found word items place d fault e l so_far h = piece_fault values found (pieces_of word) place (shown (get_or items place d)) (shown d) fault (held_within word items place e l) (held_at word items place d e) so_far h

pub held_more : (values : List ℕ → Answer) (found : List (List (List ℕ))) (word : List ℕ) (items : List held.Piece) (place : ℕ) (d : held.Piece) (list : List (List ℕ)) → map shown items ≡ pieces_of word → place < length items
    → after_lists found (lists_of values (drop place (pieces_of word))) ≡ lists_of values (pieces_of word)
    → list_of values (shown (get_or items place d)) ≡ Ok list → after_lists (found ++ list ∷ []) (lists_of values (drop (place + 1) (pieces_of word))) ≡ lists_of values (pieces_of word)
held_more values found word items place d list e l so_far h = found_piece values found (pieces_of word) place (shown (get_or items place d)) (shown d) list (held_within word items place e l) (held_at word items place d e) h ∙ so_far

pub held_all : (values : List ℕ → Answer) (found : List (List (List ℕ))) (word : List ℕ) (items : List held.Piece) (place : ℕ) → map shown items ≡ pieces_of word → length items ≤ place
    → after_lists found (lists_of values (drop place (pieces_of word))) ≡ lists_of values (pieces_of word) → product_of values word ≡ within (product found)
held_all values found word items place e end so_far = found_all values found (pieces_of word) place (subst (λ s. length s ≤ place) e (omega (arith, end, length-map items shown))) so_far

part_more : (test : List ℕ → Bool) (word : List ℕ) (items : List held.Piece) (place : ℕ) (d : held.Piece) (inside : List ℕ) → map shown items ≡ pieces_of word → place < length items → shown (get_or items place d) ≡ part inside
    → any_part test (drop place (pieces_of word)) ≡ (test inside || any_part test (drop (place + 1) (pieces_of word)))
part_more test word items place d inside e l is =
    ap (any_part test) (drop_more (pieces_of word) place (shown d) (held_within word items place e l) ∙ ap (λ s. s ∷ drop (place + 1) (pieces_of word)) (sym (held_at word items place d e) ∙ is))

-- a part that is too deep, one that is not, and literal text
pub deep_part : (test : List ℕ → Bool) (word : List ℕ) (items : List held.Piece) (place : ℕ) (d : held.Piece) (inside : List ℕ) → map shown items ≡ pieces_of word → place < length items → shown (get_or items place d) ≡ part inside
    → any_part test (drop place (pieces_of word)) ≡ any_part test (pieces_of word) → test inside ≡ true → any_part test (pieces_of word) ≡ true
deep_part test word items place d inside e l is so_far deep = sym so_far ∙ part_more test word items place d inside e l is ∙ ap (λ b. b || any_part test (drop (place + 1) (pieces_of word))) deep

pub flat_part : (test : List ℕ → Bool) (word : List ℕ) (items : List held.Piece) (place : ℕ) (d : held.Piece) (inside : List ℕ) → map shown items ≡ pieces_of word → place < length items → shown (get_or items place d) ≡ part inside
    → any_part test (drop place (pieces_of word)) ≡ any_part test (pieces_of word) → test inside ≡ false → any_part test (drop (place + 1) (pieces_of word)) ≡ any_part test (pieces_of word)
flat_part test word items place d inside e l is so_far flat = sym (part_more test word items place d inside e l is ∙ ap (λ b. b || any_part test (drop (place + 1) (pieces_of word))) flat) ∙ so_far

pub no_part : (test : List ℕ → Bool) (word : List ℕ) (items : List held.Piece) (place : ℕ) (d : held.Piece) (bytes : List ℕ) → map shown items ≡ pieces_of word → place < length items → shown (get_or items place d) ≡ text bytes
    → any_part test (drop place (pieces_of word)) ≡ any_part test (pieces_of word) → any_part test (drop (place + 1) (pieces_of word)) ≡ any_part test (pieces_of word)
no_part test word items place d bytes e l is so_far =
    sym (ap (any_part test) (drop_more (pieces_of word) place (shown d) (held_within word items place e l) ∙ ap (λ s. s ∷ drop (place + 1) (pieces_of word)) (sym (held_at word items place d e) ∙ is))) ∙ so_far

pub no_more : (test : List ℕ → Bool) (word : List ℕ) (items : List held.Piece) (place : ℕ) → map shown items ≡ pieces_of word → length items ≤ place → any_part test (drop place (pieces_of word)) ≡ any_part test (pieces_of word) → any_part test (pieces_of word) ≡ false
no_more test word items place e end so_far = sym so_far ∙ ap (any_part test) (drop_of_length-le (pieces_of word) (subst (λ s. length s ≤ place) e (omega (arith, end, length-map items shown))))

-- what depth means at the bottom and above it
pub deep_zero : (levels : ℕ) (inside : List ℕ) → levels ≡ 0 → too_deep levels inside ≡ true
unfolding too_deep
deep_zero zero inside e = refl
deep_zero (suc levels) inside e = absurd (omega (arith, e))

pub deep_more : (levels : ℕ) (inside : List ℕ) → levels ≢ 0 → too_deep levels inside ≡ any_part (too_deep (levels - 1)) (pieces_of inside)
unfolding too_deep
deep_more zero inside e = absurd (e refl)
deep_more (suc levels) inside e = let less : suc levels - 1 ≡ levels = omega arith in rw less refl

pub elements_zero : (levels : ℕ) (names : List ℕ → List (List ℕ)) (word : List ℕ) → levels ≡ 0 → elements_at levels names word ≡ within (word ∷ [])
unfolding elements_at
elements_zero zero names word e = refl
elements_zero (suc levels) names word e = absurd (omega (arith, e))

pub elements_more : (levels : ℕ) (names : List ℕ → List (List ℕ)) (word : List ℕ) → levels ≢ 0 → elements_at levels names word ≡ product_of (λ inside. and_then (values_of_all names) (elements_at (levels - 1) names inside)) word
unfolding elements_at
elements_more zero names word e = absurd (e refl)
elements_more (suc levels) names word e = let less : suc levels - 1 ≡ levels = omega arith in rw less refl
