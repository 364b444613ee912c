-- A word is cut exactly as the relation says.
use Rattle.std.proofs.Common.{◌≡◌, ◌≢◌, ℕ, ◌+◌, Bool, true, false, eqb, suc, zero, List, [], ◌∷◌, ◌++◌, length, take, drop, refl, ap, sym, ◌∙◌, arith, subst, cond, Option, Some, None, ◌↔◌}
use Rattle.std.specs.List.{flat_map}
use Rattle.std.proofs.lemmas.List.{append_assoc, length-append, take_at, drop_at}
use Rattle.std.proofs.lemmas.Bool.{eqb-true, ne_eqb}
use Rattle.std.proofs.lemmas.Bool.Decides.{nat_tests}
use Rattle.jam_expand.specs.Words.{Piece, text, part, closing, inside_len, before_pieces, piece_at, pieces_after, pieces_of}
use Rattle.jam_expand.specs.WordCuts.{written, IsBalanced, no_bytes, one_byte, one_pair, BeginsNoPart, IsCutInto, at_end, at_literal, at_part}
use Rattle.jam_expand.proofs.PiecesGrowAlongTheWord.{after_literal, after_part}

-- ---- balanced bytes are passed by the search for the `)` that closes

pass_other : (byte : ℕ) (bytes : List ℕ) (depth at : ℕ) → byte ≢ 40 → byte ≢ 41 → closing depth at (byte ∷ bytes) ≡ closing depth (at + 1) bytes
pass_other byte bytes zero at no_open no_close = rw (ne_eqb byte 41 no_close, ne_eqb byte 40 no_open) refl
pass_other byte bytes (suc depth) at no_open no_close = rw (ne_eqb byte 41 no_close, ne_eqb byte 40 no_open) refl

pass_open : (bytes : List ℕ) (depth at : ℕ) → closing depth at (40 ∷ bytes) ≡ closing (suc depth) (at + 1) bytes
pass_open bytes zero at = refl
pass_open bytes (suc depth) at = refl

pass_balanced : (bytes : List ℕ) → IsBalanced bytes → (depth at : ℕ) (rest : List ℕ) → closing depth at (bytes ++ rest) ≡ closing depth (at + length bytes) rest
pass_balanced bytes no_bytes depth at rest = let same : at ≡ at + 0 = omega arith in ap (λ n. closing depth n rest) same
pass_balanced bytes (one_byte byte more no_open no_close h) depth at rest =
    let count : at + 1 + length more ≡ at + suc (length more) = omega arith in
    pass_other byte (more ++ rest) depth at no_open no_close ∙ pass_balanced more h depth (at + 1) rest ∙ ap (λ n. closing depth n rest) count
pass_balanced bytes (one_pair inside more inner outer) depth at rest =
    let count : at + 1 + length inside + 1 + length more ≡ at + suc (length (inside ++ 41 ∷ more)) = omega (arith, length-append inside (41 ∷ more)) in
    ap (λ s. closing depth at (40 ∷ s)) (append_assoc inside (41 ∷ more) rest)
    ∙ pass_open (inside ++ 41 ∷ (more ++ rest)) depth at
    ∙ pass_balanced inside inner (suc depth) (at + 1) (41 ∷ (more ++ rest))
    ∙ pass_balanced more outer depth (at + 1 + length inside + 1) rest
    ∙ ap (λ n. closing depth n rest) count

pub part_found : (inside rest : List ℕ) → IsBalanced inside → inside_len (36 ∷ 40 ∷ (inside ++ 41 ∷ rest)) ≡ Some (length inside)
part_found inside rest h = let same : 0 + length inside ≡ length inside = omega arith in pass_balanced inside h 0 0 (41 ∷ rest) ∙ ap (λ n. Some n) same

-- ---- what was passed where the search ends is balanced

-- balanced bytes, a `)` and bytes of which more is known
record OneClosed (P : List ℕ → Type 0) (bytes : List ℕ) : Type 0 where
  front : List ℕ
  back : List ℕ
  bytes_are : bytes ≡ front ++ 41 ∷ back
  balanced : IsBalanced front
  more : P back

-- balanced but for so many more `)`
abbrev Closes : ℕ → List ℕ → Type 0
Closes zero = IsBalanced
Closes (suc depth) = OneClosed (Closes depth)

closes_other : (depth byte : ℕ) (bytes : List ℕ) → byte ≢ 40 → byte ≢ 41 → Closes depth bytes → Closes depth (byte ∷ bytes)
closes_other zero byte bytes no_open no_close h = one_byte byte bytes no_open no_close h
closes_other (suc depth) byte bytes no_open no_close h = record {
  front = byte ∷ h.front;
  back = h.back;
  bytes_are = ap (λ s. byte ∷ s) h.bytes_are;
  balanced = one_byte byte h.front no_open no_close h.balanced;
  more = h.more;
}

closes_open : (depth : ℕ) (bytes : List ℕ) → Closes (suc depth) bytes → Closes depth (40 ∷ bytes)
closes_open zero bytes h = subst (λ s. IsBalanced (40 ∷ s)) (sym h.bytes_are) (one_pair h.front h.back h.balanced h.more)
closes_open (suc depth) bytes h = record {
  front = 40 ∷ (h.front ++ 41 ∷ h.more.front);
  back = h.more.back;
  bytes_are = ap (λ s. 40 ∷ s) (h.bytes_are ∙ ap (λ s. h.front ++ 41 ∷ s) h.more.bytes_are ∙ sym (append_assoc h.front (41 ∷ h.more.front) (41 ∷ h.more.back)));
  balanced = one_pair h.front h.more.front h.balanced h.more.balanced;
  more = h.more.more;
}

-- where the search ended
record Ends (depth at found : ℕ) (bytes : List ℕ) : Type 0 where
  inside : List ℕ
  rest : List ℕ
  bytes_are : bytes ≡ inside ++ 41 ∷ rest
  found_is : found ≡ at + length inside
  closes : Closes depth inside

ends_later : (before depth at found byte : ℕ) (bytes : List ℕ) → ((inside : List ℕ) → Closes before inside → Closes depth (byte ∷ inside)) → Ends before (at + 1) found bytes → Ends depth at found (byte ∷ bytes)
ends_later before depth at found byte bytes more h = record {
  inside = byte ∷ h.inside;
  rest = h.rest;
  bytes_are = ap (λ s. byte ∷ s) h.bytes_are;
  found_is = omega (arith, h.found_is);
  closes = more h.inside h.closes;
}

closes_close : (depth : ℕ) (inside : List ℕ) (byte : ℕ) → byte ≡ 41 → Closes depth inside → Closes (suc depth) (byte ∷ inside)
closes_close depth inside byte e h = record { front = []; back = inside; bytes_are = ap (λ b. b ∷ inside) e; balanced = no_bytes; more = h }

closes_open_at : (depth : ℕ) (inside : List ℕ) (byte : ℕ) → byte ≡ 40 → Closes (suc depth) inside → Closes depth (byte ∷ inside)
closes_open_at depth inside byte e h = subst (λ b. Closes depth (b ∷ inside)) (sym e) (closes_open depth inside h)

differs : (byte sign : ℕ) → eqb byte sign ≡ false → byte ≢ sign
differs byte sign e h = grind (arith, nat_tests, e, h)

ends_here : (at found byte : ℕ) (bytes : List ℕ) → byte ≡ 41 → Some at ≡ Some found → Ends 0 at found (byte ∷ bytes)
ends_here at found byte bytes e h = let same : at ≡ found = cc in record { inside = []; rest = bytes; bytes_are = ap (λ b. b ∷ bytes) e; found_is = omega (arith, same); closes = no_bytes }

ends_at : (depth at found : ℕ) (bytes : List ℕ) → closing depth at bytes ≡ Some found → Ends depth at found bytes
ends_at depth at found [] h = cc
ends_at zero at found (byte ∷ bytes) h = go (eqb byte 41) refl (eqb byte 40) refl h (ends_at 1 (at + 1) found bytes) (ends_at 0 (at + 1) found bytes)
  where
    go : (t : Bool) → eqb byte 41 ≡ t → (u : Bool) → eqb byte 40 ≡ u → cond t (Some at) (cond u (closing 1 (at + 1) bytes) (closing 0 (at + 1) bytes)) ≡ Some found
        → (closing 1 (at + 1) bytes ≡ Some found → Ends 1 (at + 1) found bytes) → (closing 0 (at + 1) bytes ≡ Some found → Ends 0 (at + 1) found bytes) → Ends 0 at found (byte ∷ bytes)
    go true e u f h deeper same = ends_here at found byte bytes (eqb-true byte 41 e) h
    go false e true f h deeper same = ends_later 1 0 at found byte bytes (λ inside c. closes_open_at 0 inside byte (eqb-true byte 40 f) c) (deeper h)
    go false e false f h deeper same = ends_later 0 0 at found byte bytes (λ inside c. closes_other 0 byte inside (differs byte 40 f) (differs byte 41 e) c) (same h)
ends_at (suc depth) at found (byte ∷ bytes) h = go (eqb byte 41) refl (eqb byte 40) refl h (ends_at depth (at + 1) found bytes) (ends_at (suc (suc depth)) (at + 1) found bytes) (ends_at (suc depth) (at + 1) found bytes)
  where
    go : (t : Bool) → eqb byte 41 ≡ t → (u : Bool) → eqb byte 40 ≡ u → cond t (closing depth (at + 1) bytes) (cond u (closing (suc (suc depth)) (at + 1) bytes) (closing (suc depth) (at + 1) bytes)) ≡ Some found
        → (closing depth (at + 1) bytes ≡ Some found → Ends depth (at + 1) found bytes) → (closing (suc (suc depth)) (at + 1) bytes ≡ Some found → Ends (suc (suc depth)) (at + 1) found bytes)
        → (closing (suc depth) (at + 1) bytes ≡ Some found → Ends (suc depth) (at + 1) found bytes) → Ends (suc depth) at found (byte ∷ bytes)
    go true e u f h less deeper same = ends_later depth (suc depth) at found byte bytes (λ inside c. closes_close depth inside byte (eqb-true byte 41 e) c) (less h)
    go false e true f h less deeper same = ends_later (suc (suc depth)) (suc depth) at found byte bytes (λ inside c. closes_open_at (suc depth) inside byte (eqb-true byte 40 f) c) (deeper h)
    go false e false f h less deeper same = ends_later (suc depth) (suc depth) at found byte bytes (λ inside c. closes_other (suc depth) byte inside (differs byte 40 f) (differs byte 41 e) c) (same h)

-- a part that was found
record PartHere (bytes : List ℕ) (len : ℕ) : Type 0 where
  inside : List ℕ
  rest : List ℕ
  bytes_are : bytes ≡ 36 ∷ 40 ∷ (inside ++ 41 ∷ rest)
  len_is : len ≡ length inside
  balanced : IsBalanced inside

part_here : (bytes : List ℕ) (len : ℕ) → inside_len bytes ≡ Some len → PartHere bytes len
part_here [] len h = cc
part_here (dollar ∷ []) len h = cc
part_here (dollar ∷ next ∷ bytes) len h = go (eqb dollar 36) refl (eqb next 40) refl h
  where
    go : (t : Bool) → eqb dollar 36 ≡ t → (u : Bool) → eqb next 40 ≡ u → cond t (cond u (closing 0 0 bytes) None) None ≡ Some len → PartHere (dollar ∷ next ∷ bytes) len
    go true e true f h =
        let found : Ends 0 0 len bytes = ends_at 0 0 len bytes h in
        record {
          inside = found.inside;
          rest = found.rest;
          bytes_are = ap (λ b. b ∷ next ∷ bytes) (eqb-true dollar 36 e) ∙ ap (λ b. 36 ∷ b ∷ bytes) (eqb-true next 40 f) ∙ ap (λ s. 36 ∷ 40 ∷ s) found.bytes_are;
          len_is = omega (arith, found.found_is);
          balanced = found.closes;
        }
    go true e false f h = cc
    go false e u f h = cc

-- ---- the cut

no_part : (bytes : List ℕ) → inside_len bytes ≡ None → BeginsNoPart bytes
no_part bytes none inside rest h e = let some : inside_len bytes ≡ Some (length inside) = ap inside_len e ∙ part_found inside rest h in cc

pub no_len : (bytes : List ℕ) → BeginsNoPart bytes → inside_len bytes ≡ None
no_len bytes h = go (inside_len bytes) refl
  where
    go : (len : Option ℕ) → inside_len bytes ≡ len → len ≡ None
    go None e = refl
    go (Some len) e = let p : PartHere bytes len = part_here bytes len e in absurd (h p.inside p.rest p.balanced p.bytes_are)

-- what stands after a part
after_inside : (inside rest : List ℕ) → drop (length inside + 2) (40 ∷ (inside ++ 41 ∷ rest)) ≡ rest
after_inside inside rest =
    let long : length ((40 ∷ inside) ++ 41 ∷ []) ≡ length inside + 2 = omega (arith, length-append (40 ∷ inside) (41 ∷ [])) in
    ap (λ s. drop (length inside + 2) (40 ∷ s)) (sym (append_assoc inside (41 ∷ []) rest)) ∙ drop_at ((40 ∷ inside) ++ 41 ∷ []) rest (length inside + 2) long

cut_part_at : (byte : ℕ) (bytes : List ℕ) (len : ℕ) (pieces : List Piece) → PartHere (byte ∷ bytes) len → IsCutInto (drop (len + 2) bytes) pieces → IsCutInto (byte ∷ bytes) (part (take len (drop 1 bytes)) ∷ pieces)
cut_part_at byte bytes len pieces p h =
    let bytes_are : bytes ≡ 40 ∷ (p.inside ++ 41 ∷ p.rest) = ap (drop 1) p.bytes_are in
    let rest_is : drop (len + 2) bytes ≡ p.rest = ap (λ s. drop (len + 2) s) bytes_are ∙ ap (λ n. drop (n + 2) (40 ∷ (p.inside ++ 41 ∷ p.rest))) p.len_is ∙ after_inside p.inside p.rest in
    let inside_is : take len (drop 1 bytes) ≡ p.inside = ap (λ s. take len (drop 1 s)) bytes_are ∙ take_at p.inside (41 ∷ p.rest) len (sym p.len_is) in
    let made : IsCutInto (36 ∷ 40 ∷ (p.inside ++ 41 ∷ p.rest)) (part p.inside ∷ pieces) = at_part p.inside p.rest pieces p.balanced (subst (λ s. IsCutInto s pieces) rest_is h) in
    subst (λ s. IsCutInto (byte ∷ bytes) (part s ∷ pieces)) (sym inside_is) (subst (λ s. IsCutInto s (part p.inside ∷ pieces)) (sym p.bytes_are) made)

cut_from : (skipped : ℕ) (bytes : List ℕ) → IsCutInto (drop skipped bytes) (pieces_after skipped bytes)
cut_from zero [] = at_end
cut_from (suc skipped) [] = at_end
cut_from (suc skipped) (byte ∷ bytes) = cut_from skipped bytes
cut_from zero (byte ∷ bytes) = go (inside_len (byte ∷ bytes)) refl (λ skipped. cut_from skipped bytes)
  where
    go : (len : Option ℕ) → inside_len (byte ∷ bytes) ≡ len → ((skipped : ℕ) → IsCutInto (drop skipped bytes) (pieces_after skipped bytes)) → IsCutInto (byte ∷ bytes) (piece_at len byte bytes (λ skipped. pieces_after skipped bytes))
    go None e more = at_literal byte bytes (pieces_after 0 bytes) (no_part (byte ∷ bytes) e) (more 0)
    go (Some len) e more = cut_part_at byte bytes len (pieces_after (len + 2) bytes) (part_here (byte ∷ bytes) len e) (more (len + 2))

pub word_is_cut : (word : List ℕ) → IsCutInto word (pieces_of word)
word_is_cut word = cut_from 0 word

pub cut_is_one : (word : List ℕ) (pieces : List Piece) → IsCutInto word pieces → pieces ≡ pieces_of word
cut_is_one word pieces at_end = refl
cut_is_one word pieces (at_literal byte rest more none h) = ap (before_pieces byte) (cut_is_one rest more h) ∙ sym (after_literal byte rest (no_len (byte ∷ rest) none))
cut_is_one word pieces (at_part inside rest more balanced h) =
    ap (λ s. part inside ∷ s) (cut_is_one rest more h)
    ∙ ap (λ s. part s ∷ pieces_of rest) (sym (take_at inside (41 ∷ rest) (length inside) refl))
    ∙ ap (λ s. part (take (length inside) (inside ++ 41 ∷ rest)) ∷ pieces_after 0 s) (sym (after_inside inside rest))
    ∙ sym (after_part 36 (40 ∷ (inside ++ 41 ∷ rest)) (length inside) (part_found inside rest balanced))

pub cut_exactly : (word : List ℕ) (pieces : List Piece) → IsCutInto word pieces ↔ (pieces ≡ pieces_of word)
cut_exactly word pieces = (λ h. cut_is_one word pieces h, λ e. subst (IsCutInto word) (sym e) (word_is_cut word))

written_before : (byte : ℕ) (pieces : List Piece) → flat_map written (before_pieces byte pieces) ≡ byte ∷ flat_map written pieces
written_before byte [] = refl
written_before byte (text bytes ∷ pieces) = refl
written_before byte (part inside ∷ pieces) = refl

written_cut : (word : List ℕ) (pieces : List Piece) → IsCutInto word pieces → flat_map written pieces ≡ word
written_cut word pieces at_end = refl
written_cut word pieces (at_literal byte rest more none h) = written_before byte more ∙ ap (λ s. byte ∷ s) (written_cut rest more h)
written_cut word pieces (at_part inside rest more balanced h) = ap (λ s. 36 ∷ 40 ∷ s) (append_assoc inside (41 ∷ []) (flat_map written more) ∙ ap (λ s. inside ++ 41 ∷ s) (written_cut rest more h))

-- the pieces of a word, written again, are the word
pub pieces_written : (word : List ℕ) → flat_map written (pieces_of word) ≡ word
pieces_written word = written_cut word (pieces_of word) (word_is_cut word)
