-- The text of a word is made of its bytes in turn, by quotes and backslashes, and is a text where the word is one.
use Rattle.std.proofs.Common.{◌≡◌, ℕ, ◌+◌, ◌<◌, Bool, true, false, cond, ◌==◌, length, get_or, drop, List, [], ◌∷◌, ◌++◌, refl, sym, ◌∙◌, ap, subst, arith}
use Rattle.jam_lexer.specs.Word.{text_of, text_of_letter}
use Rattle.jam_lexer.proofs.WordsGrowLetterByLetter.{letters_plain, letters_literal, letters_lone}
use Rattle.std.specs.List.{flat_map, AllByRecursion}
use Rattle.std.proofs.lemmas.List.{append_assoc, drop_more, get_or_at, length-append, length_push, take_at, drop_at}
use Rattle.std.proofs.lemmas.List.Elements.{All-from_recursion, recursion_from_All}
use Rattle.std.proofs.lemmas.Str.{IsUtf8-take, IsUtf8-drop, IsUtf8-append, IsCharBoundary-before_ascii, IsCharBoundary-after_ascii}
use Rattle.std.specs.Str.{IsUtf8}
use Rattle.jam_lexer.specs.Tokens.{IsText}
use Rattle.std.proofs.lemmas.Bool.{eq-eqb, eqb-true, ne_eqb}

-- the text of the bytes that are left, where a backslash may stand before them
abbrev pub text_after : Bool → List ℕ → List ℕ
text_after false rest = text_of rest
text_after true [] = []
text_after true (byte ∷ rest) = byte ∷ text_of rest

pub text_of-plain : (b : ℕ) (rest : List ℕ) → (b == 92) ≡ false → (b == 34) ≡ false → text_of (b ∷ rest) ≡ b ∷ text_of rest
text_of-plain b rest e q = ap (flat_map text_of_letter) (letters_plain b rest e) ∙ ap (λ t. cond t [] (b ∷ []) ++ text_of rest) q

pub text_of-quote : (b : ℕ) (rest : List ℕ) → (b == 92) ≡ false → (b == 34) ≡ true → text_of (b ∷ rest) ≡ text_of rest
text_of-quote b rest e q = ap (flat_map text_of_letter) (letters_plain b rest e) ∙ ap (λ t. cond t [] (b ∷ []) ++ text_of rest) q

pub text_of-backslash : (b : ℕ) (rest : List ℕ) → (b == 92) ≡ true → text_of (b ∷ rest) ≡ text_after true rest
text_of-backslash b [] e = ap (flat_map text_of_letter) (letters_lone b e)
text_of-backslash b (c ∷ rest) e = ap (flat_map text_of_letter) (letters_literal b c rest e)

-- ---- one byte further in a word

module _ (word text : List ℕ) (i b : ℕ) (within : i < length word) (is_b : get_or word i 0 ≡ b) where
  opened : drop i word ≡ b ∷ drop (i + 1) word
  opened = drop_more word i 0 within ∙ ap (λ x. x ∷ drop (i + 1) word) is_b

  pub step_literal : text ++ text_after true (drop i word) ≡ text_of word → (text ++ b ∷ []) ++ text_after false (drop (i + 1) word) ≡ text_of word
  step_literal so_far = append_assoc text (b ∷ []) (text_of (drop (i + 1) word)) ∙ sym (ap (λ rest. text ++ text_after true rest) opened) ∙ so_far

  pub step_backslash : text ++ text_after false (drop i word) ≡ text_of word → b ≡ 92 → text ++ text_after true (drop (i + 1) word) ≡ text_of word
  step_backslash so_far e = sym (ap (λ rest. text ++ rest) (ap text_of opened ∙ text_of-backslash b (drop (i + 1) word) (eq-eqb b 92 e))) ∙ so_far

  pub step_quote : text ++ text_after false (drop i word) ≡ text_of word → (b ≡ 92 → ⊥) → b ≡ 34 → text ++ text_after false (drop (i + 1) word) ≡ text_of word
  step_quote so_far e q = sym (ap (λ rest. text ++ rest) (ap text_of opened ∙ text_of-quote b (drop (i + 1) word) (ne_eqb b 92 e) (eq-eqb b 34 q))) ∙ so_far

  pub step_plain : text ++ text_after false (drop i word) ≡ text_of word → (b ≡ 92 → ⊥) → (b ≡ 34 → ⊥) → (text ++ b ∷ []) ++ text_after false (drop (i + 1) word) ≡ text_of word
  step_plain so_far e q =
      append_assoc text (b ∷ []) (text_of (drop (i + 1) word))
      ∙ sym (ap (λ rest. text ++ rest) (ap text_of opened ∙ text_of-plain b (drop (i + 1) word) (ne_eqb b 92 e) (ne_eqb b 34 q))) ∙ so_far

-- ---- the text of a word is a text

-- without an ASCII byte UTF-8 stays UTF-8
utf8_without : (prefix : List ℕ) (b : ℕ) (rest : List ℕ) → b < 128 → IsUtf8 (prefix ++ b ∷ rest) → IsUtf8 (prefix ++ rest)
utf8_without prefix b rest ascii utf8 =
    let whole : List ℕ = prefix ++ b ∷ rest in
    let at : get_or whole (length prefix) 0 ≡ b = get_or_at prefix b rest 0 (length prefix) refl in
    let within : length prefix < length whole = omega (arith, length-append prefix (b ∷ rest)) in
    let low : get_or whole (length prefix) 0 < 128 = omega (arith, at) in
    let before : IsUtf8 prefix = subst IsUtf8 (take_at prefix (b ∷ rest) (length prefix) refl) (IsUtf8-take whole (length prefix) utf8 (IsCharBoundary-before_ascii whole (length prefix) within low)) in
    let split : whole ≡ (prefix ++ b ∷ []) ++ rest = sym (append_assoc prefix (b ∷ []) rest) in
    let after : IsUtf8 rest =
    subst IsUtf8 (ap (drop (length prefix + 1)) split ∙ drop_at (prefix ++ b ∷ []) rest (length prefix + 1) (length_push prefix b))
    (IsUtf8-drop whole (length prefix + 1) utf8 (IsCharBoundary-after_ascii whole (length prefix) utf8 within low)) in
    IsUtf8-append prefix rest before after

utf8_after : (literal : Bool) (prefix word : List ℕ) → IsUtf8 (prefix ++ word) → IsUtf8 (prefix ++ text_after literal word)
utf8_after true prefix [] utf8 = utf8
utf8_after false prefix [] utf8 = utf8
utf8_after true prefix (b ∷ rest) utf8 = subst IsUtf8 (append_assoc prefix (b ∷ []) (text_of rest)) (utf8_after false (prefix ++ b ∷ []) rest (subst IsUtf8 (sym (append_assoc prefix (b ∷ []) rest)) utf8))
utf8_after false prefix (b ∷ rest) utf8 = go (b == 92) (b == 34) refl refl (utf8_after true prefix rest) (utf8_after false prefix rest) (utf8_after false (prefix ++ b ∷ []) rest)
  where
    go : (s q : Bool) → (b == 92) ≡ s → (b == 34) ≡ q → (IsUtf8 (prefix ++ rest) → IsUtf8 (prefix ++ text_after true rest)) → (IsUtf8 (prefix ++ rest) → IsUtf8 (prefix ++ text_of rest)) → (IsUtf8 ((prefix ++ b ∷ []) ++ rest) → IsUtf8 ((prefix ++ b ∷ []) ++ text_of rest)) → IsUtf8 (prefix ++ text_of (b ∷ rest))
    go true q e f slash next plain = subst (λ t. IsUtf8 (prefix ++ t)) (sym (text_of-backslash b rest e)) (slash (utf8_without prefix b rest (omega (arith, eqb-true b 92 e)) utf8))
    go false true e f slash next plain = subst (λ t. IsUtf8 (prefix ++ t)) (sym (text_of-quote b rest e f)) (next (utf8_without prefix b rest (omega (arith, eqb-true b 34 f)) utf8))
    go false false e f slash next plain = subst IsUtf8 (append_assoc prefix (b ∷ []) (text_of rest) ∙ sym (ap (λ t. prefix ++ t) (text_of-plain b rest e f))) (plain (subst IsUtf8 (sym (append_assoc prefix (b ∷ []) rest)) utf8))

no_zero_after : (literal : Bool) (word : List ℕ) → AllByRecursion (λ b. 0 < b) word → AllByRecursion (λ b. 0 < b) (text_after literal word)
no_zero_after true [] all = tt
no_zero_after false [] all = tt
no_zero_after true (b ∷ rest) all = (all.0, no_zero_after false rest all.1)
no_zero_after false (b ∷ rest) all = go (b == 92) (b == 34) refl refl (no_zero_after true rest all.1) (no_zero_after false rest all.1)
  where
    go : (s q : Bool) → (b == 92) ≡ s → (b == 34) ≡ q → AllByRecursion (λ b. 0 < b) (text_after true rest) → AllByRecursion (λ b. 0 < b) (text_of rest) → AllByRecursion (λ b. 0 < b) (text_of (b ∷ rest))
    go true q e f slash next = subst (AllByRecursion (λ b. 0 < b)) (sym (text_of-backslash b rest e)) slash
    go false true e f slash next = subst (AllByRecursion (λ b. 0 < b)) (sym (text_of-quote b rest e f)) next
    go false false e f slash next = subst (AllByRecursion (λ b. 0 < b)) (sym (text_of-plain b rest e f)) (all.0, next)

pub text_of_text : (word : List ℕ) → IsText word → IsText (text_of word)
text_of_text word text = (utf8_after false [] word text.0, All-from_recursion (λ b. 0 < b) (text_of word) (no_zero_after false word (recursion_from_All (λ b. 0 < b) word text.1)))
