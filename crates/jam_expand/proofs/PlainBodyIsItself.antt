-- Words and white space of a body interleave to the body, so one without `$` and within the limit is only trimmed.
use Rattle.std.proofs.Common.{◌≡◌, ◌≢◌, ℕ, ◌<◌, ◌+◌, Bool, true, false, ltb, List, [], ◌∷◌, ◌++◌, length, refl, ap, sym, ◌∙◌, arith, cond, Option, Some, None, Ok}
use Rattle.std.specs.List.{All, AllByRecursion, onto_first, join_with_byte}
use Rattle.std.proofs.lemmas.List.{append_assoc, append-nil}
use Rattle.std.proofs.lemmas.List.Elements.{recursion_from_All}
use Rattle.std.proofs.lemmas.List.Splits.{length-slice_split}
use Rattle.std.proofs.lemmas.Bool.{ltb-false, le-ltb}
use Rattle.jam_expand.specs.Limits.{limit, first_above, unless_above, within, total}
use Rattle.jam_expand.specs.Expansions.{expansion}
use Rattle.jam_expand.specs.Bodies.{words, spaces, interleaved, trimmed, body_texts, body_expansion}
use Rattle.b2_base.specs.Bytes.{is_white}
use Rattle.b2_base.specs.Results.{and_then}
use Rattle.jam_expand.proofs.SumTellsIfTooLarge.{above_after, above_stays}
use Rattle.jam_expand.proofs.BodyGoesWordByWord.{opened}
use Rattle.jam_expand.proofs.PlainWordsExpandToThemselves.{plain_expansion}

-- ---- the words and the white space of a body, interleaved, are the body

interleaved_first : (byte : ℕ) (texts : List (List ℕ)) (white : List ℕ) → 0 < length texts → interleaved (onto_first byte texts) white ≡ byte ∷ interleaved texts white
interleaved_first byte [] white h = absurd (omega (arith, h))
interleaved_first byte (text ∷ more) [] h = refl
interleaved_first byte (text ∷ more) (space ∷ white) h = refl

some_words : (body : List ℕ) → 0 < length (words body)
some_words body = omega (arith, length-slice_split is_white body)

pub words_interleaved : (body : List ℕ) → interleaved (words body) (spaces body) ≡ body
words_interleaved [] = refl
words_interleaved (byte ∷ body) = go (is_white byte) (words_interleaved body)
  where
    go : (t : Bool) → interleaved (words body) (spaces body) ≡ body → interleaved (cond t ([] ∷ words body) (onto_first byte (words body))) (cond t (byte ∷ spaces body) (spaces body)) ≡ byte ∷ body
    go true h = ap (λ s. byte ∷ s) h
    go false h = interleaved_first byte (words body) (spaces body) (some_words body) ∙ ap (λ s. byte ∷ s) h

-- ---- what holds of the bytes of a body holds of those of its words

onto_all : (P : ℕ → Type 0) (byte : ℕ) (texts : List (List ℕ)) → P byte → AllByRecursion (AllByRecursion P) texts → AllByRecursion (AllByRecursion P) (onto_first byte texts)
onto_all P byte [] p h = ((p, tt), tt)
onto_all P byte (text ∷ texts) p h = ((p, h.0), h.1)

words_all : (P : ℕ → Type 0) (body : List ℕ) → AllByRecursion P body → AllByRecursion (AllByRecursion P) (words body)
words_all P [] h = (tt, tt)
words_all P (byte ∷ body) h = go (is_white byte) (words_all P body h.1)
  where
    go : (t : Bool) → AllByRecursion (AllByRecursion P) (words body) → AllByRecursion (AllByRecursion P) (cond t ([] ∷ words body) (onto_first byte (words body)))
    go true more = (tt, more)
    go false more = onto_all P byte (words body) h.0 more

-- ---- lists within the limit

not_ok : (texts : List (List ℕ)) (bytes : ℕ) → unless_above texts (Some bytes) ≡ Ok texts → ⊥
not_ok texts bytes e = cc

none_above : (texts : List (List ℕ)) → within texts ≡ Ok texts → first_above 0 texts ≡ None
none_above texts h = go (first_above 0 texts) refl
  where
    go : (found : Option ℕ) → first_above 0 texts ≡ found → found ≡ None
    go None e = refl
    go (Some bytes) e = absurd (not_ok texts bytes (sym (ap (unless_above texts) e) ∙ h))

-- no sum of a prefix is above the limit where none of the whole is
prefix_within : (texts more : List (List ℕ)) → within (texts ++ more) ≡ Ok (texts ++ more) → first_above 0 texts ≡ None
prefix_within texts more h = go (first_above 0 texts) refl
  where
    go : (found : Option ℕ) → first_above 0 texts ≡ found → found ≡ None
    go None e = refl
    go (Some bytes) e = absurd (not_ok (texts ++ more) bytes (sym (ap (unless_above (texts ++ more)) (above_stays 0 texts more bytes e)) ∙ h))

one_small : (sum : ℕ) (text : List ℕ) (more : List (List ℕ)) → first_above sum (text ∷ more) ≡ None → first_above 0 (text ∷ []) ≡ None
one_small sum text more h = go (ltb limit (sum + (length text + 1))) refl h
  where
    go : (t : Bool) → ltb limit (sum + (length text + 1)) ≡ t → cond t (Some (sum + (length text + 1))) (first_above (sum + (length text + 1)) more) ≡ None → first_above 0 (text ∷ []) ≡ None
    go true e h = cc
    go false e h =
        let small : ltb limit (0 + (length text + 1)) ≡ false = le-ltb limit (0 + (length text + 1)) (omega (arith, ltb-false limit (sum + (length text + 1)) e)) in
        rw small refl

one_within : (texts : List (List ℕ)) (text : List ℕ) (more : List (List ℕ)) → within (texts ++ text ∷ more) ≡ Ok (texts ++ text ∷ more) → within (text ∷ []) ≡ Ok (text ∷ [])
one_within texts text more h =
    ap (unless_above (text ∷ []))
    (one_small (total 0 texts) text more (sym (above_after 0 texts (text ∷ more) (prefix_within texts (text ∷ more) h)) ∙ none_above (texts ++ text ∷ more) h))

-- ---- each word is itself

plain_texts : (names : List ℕ → List (List ℕ)) (texts more : List (List ℕ)) → AllByRecursion (AllByRecursion (λ byte. byte ≢ 36)) more → within (texts ++ more) ≡ Ok (texts ++ more) → body_texts names texts more ≡ Ok (texts ++ more)
unfolding body_texts
plain_texts names texts [] plain h = ap (λ s. Ok s) (sym (append-nil texts))
plain_texts names texts (word ∷ more) plain h =
    let whole : (texts ++ word ∷ []) ++ more ≡ texts ++ word ∷ more = append_assoc texts (word ∷ []) more in
    let longer : within ((texts ++ word ∷ []) ++ more) ≡ Ok ((texts ++ word ∷ []) ++ more) = ap within whole ∙ h ∙ ap (λ s. Ok s) (sym whole) in
    let elements : expansion names word ≡ Ok (word ∷ []) = plain_expansion names word plain.0 ∙ one_within texts word more h in
    let front : within (texts ++ word ∷ []) ≡ Ok (texts ++ word ∷ []) = ap (unless_above (texts ++ word ∷ [])) (prefix_within (texts ++ word ∷ []) more longer) in
    opened names texts word more
    ∙ ap (λ found. and_then (λ list. body_texts names list more) (and_then (λ elements. within (texts ++ join_with_byte 32 elements ∷ [])) found)) elements
    ∙ ap (λ found. and_then (λ list. body_texts names list more) found) front
    ∙ plain_texts names (texts ++ word ∷ []) more plain.1 longer
    ∙ ap (λ s. Ok s) whole

pub body_is_itself : (names : List ℕ → List (List ℕ)) (body : List ℕ) → All (λ byte. byte ≢ 36) body → within (words body) ≡ Ok (words body) → body_expansion names body ≡ Ok (trimmed body)
body_is_itself names body all h =
    let plain : AllByRecursion (AllByRecursion (λ byte. byte ≢ 36)) (words body) = words_all (λ byte. byte ≢ 36) body (recursion_from_All (λ byte. byte ≢ 36) body all) in
    ap (λ found. and_then (λ texts. Ok (trimmed (interleaved texts (spaces body)))) found) (plain_texts names [] (words body) plain h)
    ∙ ap (λ s. Ok (trimmed s)) (words_interleaved body)
