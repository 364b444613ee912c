-- In quotes, with a backslash before quotes and backslashes, any text is a word that says it; so each has a word.
use Rattle.std.proofs.Common.{◌≡◌, ℕ, zero, suc, ◌<◌, ◌≤◌, Bool, true, false, cond, not, ◌==◌, ◌||◌, ◌⊎◌, inl, inr, List, [], ◌∷◌, ◌++◌, length, get_or, take, refl, sym, ◌∙◌, ap, subst, arith}
use Rattle.std.specs.List.{list_any, flat_map}
use Rattle.std.proofs.lemmas.Bool.{false≢true, or_parts, cases_lt, eqb-false}
use Rattle.std.proofs.lemmas.List.{append-nil, take-append-le, length_push, get_or_past, length-append}
use Rattle.std.proofs.lemmas.List.Concat.{flat_map-append}
use Rattle.b2_base.specs.declared.token.TokenKind.TheVariants as kinds
use Rattle.jam_lexer.specs.Word.{Letter, Plain, Literal, Lone, letters, is_quote, is_space, is_lone, in_quotes, IsUnbroken, text_of, text_of_letter, is_key_text}
use Rattle.jam_lexer.proofs.WordsGrowLetterByLetter.{letters_plain, letters_literal, letters_append, lone_append, in_quotes_push}
use Rattle.jam_spelling.specs.Spelling.{is_escaped, is_special, needs_quotes, escaped, quoted, spelling}
use Rattle.jam_spelling.specs.LexemeLists.{word}
use Rattle.jam_spelling.proofs.PlainTextsNeedNoQuotes.{IsWordOf, outside_without_quote, some_of, bare_word}

-- ---- the letters within quotes

-- the letter that a byte is within quotes
abbrev letter : ℕ → Letter
letter b = cond (is_escaped b) (Literal b) (Plain b)

letters_escaped : (b : ℕ) (rest : List ℕ) → letters (escaped b ++ rest) ≡ letter b ∷ letters rest
letters_escaped b rest = go (is_escaped b) refl
  where
    go : (t : Bool) → is_escaped b ≡ t → letters (cond t (92 ∷ b ∷ []) (b ∷ []) ++ rest) ≡ cond t (Literal b) (Plain b) ∷ letters rest
    go true e = letters_literal 92 b rest refl
    go false e = letters_plain b rest (or_parts (b == 34) (b == 92) e).1

letter_is_no_quote : (b : ℕ) → is_quote (letter b) ≡ false
letter_is_no_quote b = go (is_escaped b) refl
  where
    go : (t : Bool) → is_escaped b ≡ t → is_quote (cond t (Literal b) (Plain b)) ≡ false
    go true e = refl
    go false e = (or_parts (b == 34) (b == 92) e).0

letter_is_not_lone : (b : ℕ) → is_lone (letter b) ≡ false
letter_is_not_lone b = elim (is_escaped b) as (λ t. is_lone (cond t (Literal b) (Plain b)) ≡ false) [ true ↦ refl | false ↦ refl ]

text_of_a_letter : (b : ℕ) → text_of_letter (letter b) ≡ b ∷ []
text_of_a_letter b = go (is_escaped b) refl
  where
    go : (t : Bool) → is_escaped b ≡ t → text_of_letter (cond t (Literal b) (Plain b)) ≡ b ∷ []
    go true e = refl
    go false e = ap (λ q. cond q [] (b ∷ [])) (or_parts (b == 34) (b == 92) e).0

-- the letters of an escaped text are one for each byte, with no quote among them, and stand for the text
record IsInner (text : List ℕ) : Type 0 where
  quote : list_any is_quote (letters (flat_map escaped text)) ≡ false
  lone : list_any is_lone (letters (flat_map escaped text)) ≡ false
  same : text_of (flat_map escaped text) ≡ text

inner : (text : List ℕ) → IsInner text
inner [] = record { quote = refl; lone = refl; same = refl }
inner (b ∷ text) =
    let rest : IsInner text = inner text in
    let first : letters (flat_map escaped (b ∷ text)) ≡ letter b ∷ letters (flat_map escaped text) = letters_escaped b (flat_map escaped text) in
    record {
      quote = ap (list_any is_quote) first ∙ ap (λ t. t || list_any is_quote (letters (flat_map escaped text))) (letter_is_no_quote b) ∙ rest.quote;
      lone = ap (list_any is_lone) first ∙ ap (λ t. t || list_any is_lone (letters (flat_map escaped text))) (letter_is_not_lone b) ∙ rest.lone;
      same = ap (flat_map text_of_letter) first ∙ ap (λ t. t ++ text_of (flat_map escaped text)) (text_of_a_letter b) ∙ ap (λ t. b ∷ t) rest.same;
    }

-- ---- letters between two quotes

-- the prefixes of letters without a quote are outside quotes
outside_prefix : (ls : List Letter) (k : ℕ) → list_any is_quote ls ≡ false → in_quotes (take k ls) ≡ false
outside_prefix [] zero none = refl
outside_prefix [] (suc k) none = refl
outside_prefix (l ∷ ls) zero none = refl
outside_prefix (l ∷ ls) (suc k) none =
    let parts : (is_quote l ≡ false) × (list_any is_quote ls ≡ false) = or_parts (is_quote l) (list_any is_quote ls) none in
    ap (λ t. cond t (not (in_quotes (take k ls))) (in_quotes (take k ls))) parts.0 ∙ outside_prefix ls k parts.1

-- after the opening quote all white space stands in quotes
unbroken_in_quotes : (ls : List Letter) → list_any is_quote ls ≡ false → IsUnbroken (Plain 34 ∷ (ls ++ Plain 34 ∷ []))
unbroken_in_quotes ls none zero space = absurd (false≢true space)
unbroken_in_quotes ls none (suc k) space = go (cases_lt (length ls) k)
  where
    go : (length ls < k) ⊎ (k ≤ length ls) → not (in_quotes (take k (ls ++ Plain 34 ∷ []))) ≡ true
    go (inl past) = absurd (false≢true (sym (ap is_space (get_or_past (ls ++ Plain 34 ∷ []) k Lone (omega (arith, length_push ls (Plain 34))))) ∙ space))
    go (inr within) = ap (λ t. not (in_quotes t)) (take-append-le k ls (Plain 34 ∷ []) within) ∙ ap not (outside_prefix ls k none)

-- ---- a text in quotes

pub quoted_word : (text : List ℕ) → IsWordOf kinds.Word text (quoted text)
quoted_word text = go (inner text)
  where
    mid : List ℕ
    mid = flat_map escaped text

    ls : List Letter
    ls = letters mid

    go : IsInner text → IsWordOf kinds.Word text (quoted text)
    go i =
        let whole : letters (quoted text) ≡ Plain 34 ∷ (ls ++ Plain 34 ∷ []) = letters_plain 34 (mid ++ 34 ∷ []) refl ∙ ap (λ t. Plain 34 ∷ t) (letters_append mid (34 ∷ []) i.lone) in
        record {
          unbroken = subst IsUnbroken (sym whole) (unbroken_in_quotes ls i.quote);
          closed = ap in_quotes whole ∙ ap not (in_quotes_push ls (Plain 34) ∙ ap not (outside_without_quote ls i.quote));
          whole = ap (list_any is_lone) whole ∙ lone_append ls (Plain 34 ∷ []) i.lone;
          has_text = ap (flat_map text_of_letter) whole ∙ flat_map-append text_of_letter ls (Plain 34 ∷ []) ∙ append-nil (flat_map text_of_letter ls) ∙ i.same;
          has_kind = refl;
          some = omega (arith, length-append (34 ∷ mid) (34 ∷ []));
          no_white = refl;
          no_hash = λ e. absurd (omega (arith, e));
        }

-- ---- each Word

bare_parts : (text : List ℕ) → needs_quotes text ≡ false → IsWordOf kinds.Word text text
unfolding needs_quotes
bare_parts text none =
    let special : (((length text == 0 || is_key_text text) || get_or text 0 0 == 35) ≡ false) × (list_any is_special text ≡ false) = or_parts ((length text == 0 || is_key_text text) || get_or text 0 0 == 35) (list_any is_special text) none in
    let hash : ((length text == 0 || is_key_text text) ≡ false) × ((get_or text 0 0 == 35) ≡ false) = or_parts (length text == 0 || is_key_text text) (get_or text 0 0 == 35) special.0 in
    let keys : ((length text == 0) ≡ false) × (is_key_text text ≡ false) = or_parts (length text == 0) (is_key_text text) hash.0 in
    bare_word text false special.1 (some_of text keys.0) (eqb-false (get_or text 0 0) 35 hash.1) keys.1

pub spelled_word : (text : List ℕ) → IsWordOf kinds.Word text (spelling (word text))
spelled_word text = go (needs_quotes text) refl
  where
    go : (t : Bool) → needs_quotes text ≡ t → IsWordOf kinds.Word text (cond t (quoted text) text)
    go true e = quoted_word text
    go false e = bare_parts text e
