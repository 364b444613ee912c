-- Written texts are texts in UTF-8 with no zero byte.
use Rattle.std.proofs.Common.{◌≡◌, ℕ, zero, suc, ◌+◌, ◌<◌, Bool, true, false, cond, ◌==◌, ◌&&◌, ◌||◌, ◌⊎◌, inl, inr, List, [], ◌∷◌, ◌++◌, length, get_or, drop, refl, sym, ◌∙◌, ap, subst, arith, lit<}
use Rattle.std.specs.List.{flat_map, AllByRecursion}
use Rattle.std.specs.Str.{IsUtf8, IsAscii}
use Rattle.std.proofs.lemmas.Bool.{or_cases, eqb-true}
use Rattle.std.proofs.lemmas.List.{append_assoc, get_or_at, length-append, length_push, take_at, drop_at}
use Rattle.std.proofs.lemmas.List.Elements.{All-from_recursion, recursion_from_All, All-append, All-head, All-tail}
use Rattle.std.proofs.lemmas.Str.{IsUtf8-nil, IsUtf8-append, IsUtf8-from_ascii, IsUtf8-take, IsUtf8-drop, IsCharBoundary-before_ascii, IsCharBoundary-after_ascii}
use Rattle.jam_lexer.specs.Tokens.{IsText, is_body}
use Rattle.jam_spelling.specs.declared.lexeme.Lexeme.{Lexeme}
use Rattle.jam_spelling.specs.Spelling.{is_word, is_escaped, needs_quotes, escaped, quoted, spelling, ends_line, begins_body, separator, bytes_of}
use Rattle.jam_spelling.specs.Readings.{AreTexts}

-- ---- plain bytes

one_ascii : (b : ℕ) → b < 128 → IsAscii (b ∷ [])
one_ascii b low zero = low
one_ascii b low (suc i) = lit< tt

-- a byte below 128 that is not zero is a text
pub one_text : (b : ℕ) → 0 < b → b < 128 → IsText (b ∷ [])
one_text b some low = (IsUtf8-from_ascii (b ∷ []) (one_ascii b low), All-from_recursion (λ c. 0 < c) (b ∷ []) (some, tt))

no_text : IsText []
no_text = (IsUtf8-nil, All-from_recursion (λ c. 0 < c) [] tt)

text_append : (xs ys : List ℕ) → IsText xs → IsText ys → IsText (xs ++ ys)
text_append xs ys first second = (IsUtf8-append xs ys first.0 second.0, All-append (λ c. 0 < c) xs ys first.1 second.1)

-- ---- escaped texts

-- what stands around an ASCII byte of a text is text
record IsParted (prefix : List ℕ) (rest : List ℕ) : Type 0 where
  before : IsUtf8 prefix
  after : IsUtf8 rest

parted : (prefix : List ℕ) (b : ℕ) (rest : List ℕ) → b < 128 → IsUtf8 (prefix ++ b ∷ rest) → IsParted prefix rest
parted prefix b rest ascii utf8 =
    let whole : List ℕ = prefix ++ b ∷ rest in
    let at : get_or whole (length prefix) 0 ≡ b = get_or_at prefix b rest 0 (length prefix) refl in
    let within : length prefix < length whole = omega (arith, length-append prefix (b ∷ rest)) in
    let low : get_or whole (length prefix) 0 < 128 = omega (arith, at) in
    let split : whole ≡ (prefix ++ b ∷ []) ++ rest = sym (append_assoc prefix (b ∷ []) rest) in
    record {
      before = subst IsUtf8 (take_at prefix (b ∷ rest) (length prefix) refl) (IsUtf8-take whole (length prefix) utf8 (IsCharBoundary-before_ascii whole (length prefix) within low));
      after =
          subst IsUtf8 (ap (drop (length prefix + 1)) split ∙ drop_at (prefix ++ b ∷ []) rest (length prefix + 1) (length_push prefix b))
          (IsUtf8-drop whole (length prefix + 1) utf8 (IsCharBoundary-after_ascii whole (length prefix) utf8 within low));
    }

escaped_is_ascii : (b : ℕ) → is_escaped b ≡ true → b < 128
escaped_is_ascii b e = go (or_cases (b == 34) (b == 92) e)
  where
    go : ((b == 34) ≡ true) ⊎ ((b == 92) ≡ true) → b < 128
    go (inl is) = omega (arith, eqb-true b 34 is)
    go (inr is) = omega (arith, eqb-true b 92 is)

-- with a backslash before an ASCII byte UTF-8 stays UTF-8
utf8_escaped : (prefix rest : List ℕ) → IsUtf8 (prefix ++ rest) → IsUtf8 (prefix ++ flat_map escaped rest)
utf8_escaped prefix [] utf8 = utf8
utf8_escaped prefix (b ∷ rest) utf8 = go (is_escaped b) refl (utf8_escaped (prefix ++ 92 ∷ b ∷ []) rest) (utf8_escaped (prefix ++ b ∷ []) rest)
  where
    go : (t : Bool) → is_escaped b ≡ t → (IsUtf8 ((prefix ++ 92 ∷ b ∷ []) ++ rest) → IsUtf8 ((prefix ++ 92 ∷ b ∷ []) ++ flat_map escaped rest)) → (IsUtf8 ((prefix ++ b ∷ []) ++ rest) → IsUtf8 ((prefix ++ b ∷ []) ++ flat_map escaped rest)) → IsUtf8 (prefix ++ (cond t (92 ∷ b ∷ []) (b ∷ []) ++ flat_map escaped rest))
    go true e slash same =
        let low : b < 128 = escaped_is_ascii b e in
        let two : IsUtf8 (92 ∷ b ∷ []) = IsUtf8-append (92 ∷ []) (b ∷ []) (IsUtf8-from_ascii (92 ∷ []) (one_ascii 92 (lit< tt))) (IsUtf8-from_ascii (b ∷ []) (one_ascii b low)) in
        let parts : IsParted prefix rest = parted prefix b rest low utf8 in
        subst IsUtf8 (append_assoc prefix (92 ∷ b ∷ []) (flat_map escaped rest)) (slash (IsUtf8-append (prefix ++ 92 ∷ b ∷ []) rest (IsUtf8-append prefix (92 ∷ b ∷ []) parts.before two) parts.after))
    go false e slash same = subst IsUtf8 (append_assoc prefix (b ∷ []) (flat_map escaped rest)) (same (subst IsUtf8 (sym (append_assoc prefix (b ∷ []) rest)) utf8))

no_zero_escaped : (text : List ℕ) → AllByRecursion (λ c. 0 < c) text → AllByRecursion (λ c. 0 < c) (flat_map escaped text)
no_zero_escaped [] all = tt
no_zero_escaped (b ∷ text) all = go (is_escaped b) (no_zero_escaped text all.1)
  where
    go : (t : Bool) → AllByRecursion (λ c. 0 < c) (flat_map escaped text) → AllByRecursion (λ c. 0 < c) (cond t (92 ∷ b ∷ []) (b ∷ []) ++ flat_map escaped text)
    go true rest = (lit< tt, (all.0, rest))
    go false rest = (all.0, rest)

escaped_text : (text : List ℕ) → IsText text → IsText (flat_map escaped text)
escaped_text text is = (utf8_escaped [] text is.0, All-from_recursion (λ c. 0 < c) (flat_map escaped text) (no_zero_escaped text (recursion_from_All (λ c. 0 < c) text is.1)))

quoted_text : (text : List ℕ) → IsText text → IsText (quoted text)
quoted_text text is =
    let mark : IsText (34 ∷ []) = one_text 34 (lit< tt) (lit< tt) in
    text_append (34 ∷ flat_map escaped text) (34 ∷ []) (text_append (34 ∷ []) (flat_map escaped text) mark (escaped_text text is)) mark

-- ---- lexemes

spelling_text : (lexeme : Lexeme) → IsText lexeme.text → IsText (spelling lexeme)
spelling_text lexeme is = go (is_word lexeme.kind && needs_quotes lexeme.text)
  where
    go : (t : Bool) → IsText (cond t (quoted lexeme.text) lexeme.text)
    go true = quoted_text lexeme.text is
    go false = is

separator_text : (lexeme : Lexeme) (more : List Lexeme) → IsText (separator lexeme more)
separator_text lexeme more = go (is_body lexeme.kind || begins_body more) (ends_line lexeme) (length more == 0)
  where
    go : (s t u : Bool) → IsText (cond s [] (cond t (10 ∷ []) (cond u [] (32 ∷ []))))
    go true t u = no_text
    go false true u = one_text 10 (lit< tt) (lit< tt)
    go false false true = no_text
    go false false false = one_text 32 (lit< tt) (lit< tt)

pub text_of_lexemes : (lexemes : List Lexeme) → AreTexts lexemes → IsText (bytes_of lexemes)
text_of_lexemes [] all = no_text
text_of_lexemes (lexeme ∷ more) all =
    text_append (spelling lexeme ++ separator lexeme more) (bytes_of more)
    (text_append (spelling lexeme) (separator lexeme more) (spelling_text lexeme (All-head (λ l. IsText l.text) lexeme more all)) (separator_text lexeme more))
    (text_of_lexemes more (All-tail (λ l. IsText l.text) lexeme more all))
