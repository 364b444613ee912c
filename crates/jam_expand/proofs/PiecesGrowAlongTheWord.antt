-- A word's pieces grow by a literal byte or by a part while it is read, and at its end they are all its pieces.
use Rattle.std.proofs.Common.{◌≡◌, ℕ, ◌<◌, ◌≤◌, ◌+◌, ◌-◌, Bool, true, false, eqb, suc, zero, List, [], ◌∷◌, ◌++◌, length, take, drop, get_or, refl, ap, sym, ◌∙◌, arith, subst, cond, Some, None}
use Rattle.std.specs.Str.{IsCharBoundary, IsUtf8}
use Rattle.std.proofs.lemmas.List.{drop_more, take_more, get_or-drop, length-drop, length-take-le, take_all, drop-drop, append_assoc}
use Rattle.std.proofs.Math.ListN.{drop_of_length-le}
use Rattle.std.proofs.lemmas.Bool.{eqb-true}
use Rattle.std.proofs.lemmas.Str.{IsCharBoundary-before_ascii, IsCharBoundary-after_ascii}
use Rattle.jam_expand.specs.Words.{Piece, part, closing, inside_len, literal_of, before_pieces, piece_at, pieces_after, pieces_of}
use Rattle.jam_expand.specs.Shown.{IsPartAt}

-- where a closing sign was found
pub record Closes (at found : ℕ) (bytes : List ℕ) : Type 0 where
  pub passed : ℕ
  pub place : found ≡ at + passed
  pub inside : passed < length bytes
  pub sign : get_or bytes passed 0 ≡ 41

closes_after : (at found byte : ℕ) (bytes : List ℕ) → Closes (at + 1) found bytes → Closes at found (byte ∷ bytes)
closes_after at found byte bytes h = record { passed = suc h.passed; place = omega (arith, h.place); inside = omega (arith, h.inside); sign = h.sign }

closes_here : (at found byte : ℕ) (bytes : List ℕ) → eqb byte 41 ≡ true → Some at ≡ Some found → Closes at found (byte ∷ bytes)
closes_here at found byte bytes e h = let same : at ≡ found = cc in record { passed = 0; place = omega (arith, same); inside = omega arith; sign = eqb-true byte 41 e }

pub closes_at : (depth at found : ℕ) (bytes : List ℕ) → closing depth at bytes ≡ Some found → Closes at found bytes
closes_at depth at found [] h = cc
closes_at zero at found (byte ∷ bytes) h = go (eqb byte 41) refl (eqb byte 40) h (closes_at 1 (at + 1) found bytes) (closes_at 0 (at + 1) found bytes)
  where
    go : (t : Bool) → eqb byte 41 ≡ t → (u : Bool) → cond t (Some at) (cond u (closing 1 (at + 1) bytes) (closing 0 (at + 1) bytes)) ≡ Some found → (closing 1 (at + 1) bytes ≡ Some found → Closes (at + 1) found bytes) → (closing 0 (at + 1) bytes ≡ Some found → Closes (at + 1) found bytes) → Closes at found (byte ∷ bytes)
    go true e u h deeper same = closes_here at found byte bytes e h
    go false e true h deeper same = closes_after at found byte bytes (deeper h)
    go false e false h deeper same = closes_after at found byte bytes (same h)
closes_at (suc depth) at found (byte ∷ bytes) h = go (eqb byte 41) (eqb byte 40) h (closes_at depth (at + 1) found bytes) (closes_at (suc (suc depth)) (at + 1) found bytes) (closes_at (suc depth) (at + 1) found bytes)
  where
    go : (t u : Bool) → cond t (closing depth (at + 1) bytes) (cond u (closing (suc (suc depth)) (at + 1) bytes) (closing (suc depth) (at + 1) bytes)) ≡ Some found → (closing depth (at + 1) bytes ≡ Some found → Closes (at + 1) found bytes) → (closing (suc (suc depth)) (at + 1) bytes ≡ Some found → Closes (at + 1) found bytes) → (closing (suc depth) (at + 1) bytes ≡ Some found → Closes (at + 1) found bytes) → Closes at found (byte ∷ bytes)
    go true u h less deeper same = closes_after at found byte bytes (less h)
    go false true h less deeper same = closes_after at found byte bytes (deeper h)
    go false false h less deeper same = closes_after at found byte bytes (same h)

-- the signs round the inside of a part
pub record IsPartLen (bytes : List ℕ) (len : ℕ) : Type 0 where
  pub within : len + 2 < length bytes
  pub dollar : get_or bytes 0 0 ≡ 36
  pub next : get_or bytes 1 0 ≡ 40
  pub close : get_or bytes (len + 2) 0 ≡ 41

pub part_len : (bytes : List ℕ) (len : ℕ) → inside_len bytes ≡ Some len → IsPartLen bytes len
part_len [] len h = cc
part_len (dollar ∷ []) len h = cc
part_len (dollar ∷ next ∷ bytes) len h = go (eqb dollar 36) refl (eqb next 40) refl h
  where
    go : (t : Bool) → eqb dollar 36 ≡ t → (u : Bool) → eqb next 40 ≡ u → cond t (cond u (closing 0 0 bytes) None) None ≡ Some len → IsPartLen (dollar ∷ next ∷ bytes) len
    go true e true f h =
        let found : Closes 0 len bytes = closes_at 0 0 len bytes h in
        let place : len + 2 ≡ suc (suc found.passed) = omega (arith, found.place) in
        record { within = omega (arith, found.place, found.inside); dollar = eqb-true dollar 36 e; next = eqb-true next 40 f; close = rw place found.sign }
    go true e false f h = cc
    go false e u f h = cc

-- literal bytes before pieces
pub put : List ℕ → List Piece → List Piece
put [] pieces = pieces
put (byte ∷ bytes) pieces = before_pieces byte (put bytes pieces)

pub put_more : (literal : List ℕ) (byte : ℕ) (pieces : List Piece) → put (literal ++ byte ∷ []) pieces ≡ put literal (before_pieces byte pieces)
unfolding put
put_more [] byte pieces = refl
put_more (first ∷ literal) byte pieces = ap (before_pieces first) (put_more literal byte pieces)

pub put_end : (literal : List ℕ) → put literal [] ≡ literal_of literal
unfolding put
put_end [] = refl
put_end (byte ∷ literal) = ap (before_pieces byte) (put_end literal) ∙ go literal
  where
    go : (more : List ℕ) → before_pieces byte (literal_of more) ≡ literal_of (byte ∷ more)
    go [] = refl
    go (next ∷ more) = refl

pub put_part : (literal inside : List ℕ) (pieces : List Piece) → put literal (part inside ∷ pieces) ≡ literal_of literal ++ part inside ∷ pieces
unfolding put
put_part [] inside pieces = refl
put_part (byte ∷ literal) inside pieces = ap (before_pieces byte) (put_part literal inside pieces) ∙ go literal
  where
    go : (more : List ℕ) → before_pieces byte (literal_of more ++ part inside ∷ pieces) ≡ literal_of (byte ∷ more) ++ part inside ∷ pieces
    go [] = refl
    go (next ∷ more) = refl

pub skip_after : (skipped : ℕ) (bytes : List ℕ) → pieces_after skipped bytes ≡ pieces_after 0 (drop skipped bytes)
skip_after zero bytes = refl
skip_after (suc skipped) [] = refl
skip_after (suc skipped) (byte ∷ bytes) = skip_after skipped bytes

pub after_literal : (byte : ℕ) (bytes : List ℕ) → inside_len (byte ∷ bytes) ≡ None → pieces_after 0 (byte ∷ bytes) ≡ before_pieces byte (pieces_after 0 bytes)
after_literal byte bytes none = ap (λ found. piece_at found byte bytes (λ skipped. pieces_after skipped bytes)) none

pub after_part : (byte : ℕ) (bytes : List ℕ) (len : ℕ) → inside_len (byte ∷ bytes) ≡ Some len → pieces_after 0 (byte ∷ bytes) ≡ part (take len (drop 1 bytes)) ∷ pieces_after 0 (drop (len + 2) bytes)
after_part byte bytes len some = ap (λ found. piece_at found byte bytes (λ skipped. pieces_after skipped bytes)) some ∙ ap (λ pieces. part (take len (drop 1 bytes)) ∷ pieces) (skip_after (len + 2) bytes)

-- How far the pieces of a word have come: what was cut, and the literal text since the last part.
pub record HasCut (word : List ℕ) (pieces : List Piece) (start at : ℕ) : Type 0 where
  pub so_far : pieces ++ put (take (at - start) (drop start word)) (pieces_after 0 (drop at word)) ≡ pieces_of word
  pub order : start ≤ at
  pub within : at ≤ length word
  pub boundary : 0 < start → IsCharBoundary word start

pub cut_nothing : (word : List ℕ) → HasCut word [] 0 0
unfolding put
cut_nothing word = record { so_far = refl; order = omega arith; within = omega arith; boundary = λ h. absurd (omega (arith, h)) }

literal_more : (word : List ℕ) (start at : ℕ) → start ≤ at → at < length word → take (at + 1 - start) (drop start word) ≡ take (at - start) (drop start word) ++ get_or word at 0 ∷ []
literal_more word start at order inside =
    let more : at + 1 - start ≡ (at - start) + 1 = omega arith in
    let there : start + (at - start) ≡ at = omega arith in
    let room : at - start < length (drop start word) = omega (arith, length-drop start word) in
    let here : get_or (drop start word) (at - start) 0 ≡ get_or word at 0 = get_or-drop start word (at - start) 0 ∙ ap (λ n. get_or word n 0) there in
    rw more (take_more (drop start word) (at - start) 0 room ∙ ap (λ byte. take (at - start) (drop start word) ++ byte ∷ []) here)

pub cut_literal : (word : List ℕ) (pieces : List Piece) (start at : ℕ) → HasCut word pieces start at → at < length word → inside_len (drop at word) ≡ None → HasCut word pieces start (at + 1)
cut_literal word pieces start at h inside none =
    let e : drop at word ≡ get_or word at 0 ∷ drop (at + 1) word = drop_more word at 0 inside in
    let here : inside_len (get_or word at 0 ∷ drop (at + 1) word) ≡ None = ap inside_len (sym e) ∙ none in
    let step : pieces_after 0 (drop at word) ≡ before_pieces (get_or word at 0) (pieces_after 0 (drop (at + 1) word)) = ap (pieces_after 0) e ∙ after_literal (get_or word at 0) (drop (at + 1) word) here in
    record {
      so_far = ap (λ literal. pieces ++ put literal (pieces_after 0 (drop (at + 1) word))) (literal_more word start at h.order inside)
          ∙ ap (λ more. pieces ++ more) (put_more (take (at - start) (drop start word)) (get_or word at 0) (pieces_after 0 (drop (at + 1) word)))
          ∙ ap (λ more. pieces ++ put (take (at - start) (drop start word)) more) (sym step)
          ∙ h.so_far;
      order = omega (arith, h.order);
      within = omega (arith, inside);
      boundary = h.boundary;
    }

pub cut_part : (word : List ℕ) (pieces longer : List Piece) (start at : ℕ) (inside : List ℕ) (after : ℕ) → HasCut word pieces start at → IsPartAt word at inside after → longer ≡ (pieces ++ literal_of (take (at - start) (drop start word))) ++ part inside ∷ [] → HasCut word longer after after
unfolding put
cut_part word pieces longer start at inside after h p longer_is =
    let len = length inside in
    let room : at < length word = omega (arith, p.after_is, p.within) in
    let e : drop at word ≡ get_or word at 0 ∷ drop (at + 1) word = drop_more word at 0 room in
    let here : inside_len (get_or word at 0 ∷ drop (at + 1) word) ≡ Some len = ap inside_len (sym e) ∙ p.len in
    let to_inside : at + 1 + 1 ≡ at + 2 = omega arith in
    let to_after : at + 1 + (len + 2) ≡ after = omega (arith, p.after_is) in
    let inner : take len (drop 1 (drop (at + 1) word)) ≡ inside = ap (take len) (drop-drop 1 (at + 1) word ∙ ap (λ n. drop n word) to_inside) ∙ sym p.inside_is in
    let outer : drop (len + 2) (drop (at + 1) word) ≡ drop after word = drop-drop (len + 2) (at + 1) word ∙ ap (λ n. drop n word) to_after in
    let step : pieces_after 0 (drop at word) ≡ part inside ∷ pieces_after 0 (drop after word) =
    ap (pieces_after 0) e ∙ after_part (get_or word at 0) (drop (at + 1) word) len here ∙ ap (λ s. part s ∷ pieces_after 0 (drop (len + 2) (drop (at + 1) word))) inner ∙ ap (λ s. part inside ∷ pieces_after 0 s) outer in
    let nothing : after - after ≡ 0 = omega arith in
    let literal = take (at - start) (drop start word) in
    let rest = pieces_after 0 (drop after word) in
    record {
      so_far = ap (λ n. longer ++ put (take n (drop after word)) rest) nothing
          ∙ ap (λ found. found ++ rest) longer_is
          ∙ append_assoc (pieces ++ literal_of literal) (part inside ∷ []) rest
          ∙ append_assoc pieces (literal_of literal) (part inside ∷ rest)
          ∙ ap (λ more. pieces ++ more) (sym (put_part literal inside rest))
          ∙ ap (λ more. pieces ++ put literal more) (sym step)
          ∙ h.so_far;
      order = omega arith;
      within = p.within;
      boundary = λ above. p.ends;
    }

pub cut_all : (word : List ℕ) (pieces : List Piece) (start at : ℕ) → HasCut word pieces start at → length word ≤ at → pieces ++ literal_of (drop start word) ≡ pieces_of word
cut_all word pieces start at h end =
    let short : length (drop start word) ≤ at - start = omega (arith, length-drop start word, h.within, h.order) in
    let literal : take (at - start) (drop start word) ≡ drop start word = take_all (at - start) (drop start word) short in
    let nothing : drop at word ≡ [] = drop_of_length-le word end in
    ap (λ more. pieces ++ more) (sym (put_end (drop start word)))
    ∙ ap (λ s. pieces ++ put s []) (sym literal)
    ∙ ap (λ s. pieces ++ put (take (at - start) (drop start word)) (pieces_after 0 s)) (sym nothing)
    ∙ h.so_far

-- where the inside of a part may be cut out
pub record PartPlaces (word : List ℕ) (at len : ℕ) : Type 0 where
  pub room : at + len + 2 < length word
  pub first : IsCharBoundary word (at + 2)
  pub last : IsCharBoundary word (at + len + 3 - 1)
  pub is_at : IsPartAt word at (take len (drop (at + 2) word)) (at + len + 3)

pub part_places : (word : List ℕ) (at len : ℕ) → IsUtf8 word → at < length word → inside_len (drop at word) ≡ Some len → PartPlaces word at len
part_places word at len utf8 inside h =
    let p : IsPartLen (drop at word) len = part_len (drop at word) len h in
    let room : at + len + 2 < length word = omega (arith, p.within, length-drop at word) in
    let zeroth : at + 0 ≡ at = omega arith in
    let dollar : get_or word at 0 ≡ 36 = ap (λ n. get_or word n 0) (sym zeroth) ∙ sym (get_or-drop at word 0 0) ∙ p.dollar in
    let next : get_or word (at + 1) 0 ≡ 40 = sym (get_or-drop at word 1 0) ∙ p.next in
    let sum : at + (len + 2) ≡ at + len + 2 = omega arith in
    let close : get_or word (at + len + 2) 0 ≡ 41 = ap (λ n. get_or word n 0) (sym sum) ∙ sym (get_or-drop at word (len + 2) 0) ∙ p.close in
    let two : at + 1 + 1 ≡ at + 2 = omega arith in
    let three : at + len + 2 + 1 ≡ at + len + 3 = omega arith in
    let back : at + len + 3 - 1 ≡ at + len + 2 = omega arith in
    let ends : IsCharBoundary word (at + len + 3) = subst (IsCharBoundary word) three (IsCharBoundary-after_ascii word (at + len + 2) utf8 room (omega (arith, close))) in
    let full : length (take len (drop (at + 2) word)) ≡ len = length-take-le len (drop (at + 2) word) (omega (arith, room, length-drop (at + 2) word)) in
    record {
      room = room;
      first = subst (IsCharBoundary word) two (IsCharBoundary-after_ascii word (at + 1) utf8 (omega (arith, room)) (omega (arith, next)));
      last = subst (IsCharBoundary word) (sym back) (IsCharBoundary-before_ascii word (at + len + 2) room (omega (arith, close)));
      is_at = record {
        len = h ∙ ap (λ n. Some n) (sym full);
        inside_is = ap (λ n. take n (drop (at + 2) word)) (sym full);
        after_is = ap (λ n. at + n + 3) (sym full);
        within = omega (arith, room);
        starts = IsCharBoundary-before_ascii word at inside (omega (arith, dollar));
        ends = ends;
      };
    }
