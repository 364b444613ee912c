-- Pieces that are written one after another are the tokens of what is written, where each fits what stands before and after it.
use Rattle.std.proofs.Common.{◌≡◌, ℕ, zero, suc, ◌+◌, ◌-◌, ◌<◌, Bool, true, false, not, ◌&&◌, ◌||◌, cond, ◌==◌, inl, inr, List, [], ◌∷◌, ◌++◌, length, get_or, take, codes, refl, sym, ◌∙◌, ap, subst, arith, count_by}
use Rattle.std.specs.List.{list_all, list_any}
use Rattle.std.specs.Str.{bytes_eq}
use Rattle.std.proofs.lemmas.Bool.{and_parts, not-true, eqb-false, eqb-true}
use Rattle.std.proofs.lemmas.List.Sums.{sum_by-append}
use Rattle.std.proofs.lemmas.Slice.Eq.{bytes_eq-Decides}
use Rattle.b2_base.specs.Bytes.{is_white}
use Rattle.b2_base.specs.declared.token.Token.{Token}
use Rattle.b2_base.specs.declared.token.TokenKind.{TokenKind}
use Rattle.b2_base.specs.declared.token.TokenKind.TheVariants as kinds
use Rattle.jam_lexer.specs.Signs.{line_of}
use Rattle.jam_lexer.specs.Gap.{IsGap}
use Rattle.jam_lexer.specs.Word.{is_key_text}
use Rattle.jam_lexer.specs.Tokens.{Next, NextWord, NextBody, NextBrace, next_after, place_after, awaits_brace, is_key, is_body, IsNextToken, Stand, IsEnd}
use Rattle.jam_lexer.proofs.LinesGrowByLineFeeds.{lines_more}
use Rattle.jam_spelling.specs.Spelling.{is_special}
use Rattle.jam_spelling.specs.LexemeLists.{count, IsRaw}
use Rattle.jam_spelling.proofs.PlainTextsNeedNoQuotes.{IsWordOf, bare_word, some_of}
use Rattle.jam_spelling.proofs.SpelledPiecesAreTokens.{IsAt, at_length, at_byte, at_more, at_slice, IsWhite, white_gap, EndsWord, the_token, word_token, body_token}

-- a token that is written as its text, with what stands before it
pub record Piece : Type 0 where
  pub gap : List ℕ
  pub kind : TokenKind
  pub text : List ℕ

-- pieces as bytes, with what stands after the last of them
abbrev pub written : List Piece → List ℕ → List ℕ
written [] last = last
written (p ∷ ps) last = p.gap ++ (p.text ++ written ps last)

abbrev feeds : List ℕ → ℕ
feeds text = count_by (λ byte. byte == 10) text

-- their tokens, from a place and its line on
abbrev pub tokens_at : ℕ → ℕ → List Piece → List Token
tokens_at place line [] = []
tokens_at place line (p ∷ ps) =
    record { kind = p.kind; text = p.text; line = line + feeds p.gap; start = place + length p.gap; end = place + length p.gap + length p.text }
    ∷ tokens_at (place + length p.gap + length p.text) (line + feeds p.gap + feeds p.text) ps

-- ---- whether a piece fits

abbrev ends_word : List ℕ → Bool
ends_word [] = true
ends_word (byte ∷ bytes) = is_white byte

abbrev is_kind : TokenKind → Bool → Bool
is_kind kinds.Word key = not key
is_kind kinds.Key key = key
is_kind kinds.Body key = false

abbrev is_word_of : TokenKind → List ℕ → Bool
is_word_of kind text = not (list_any is_special text) && (not (length text == 0) && (not (get_or text 0 0 == 35) && is_kind kind (is_key_text text)))

abbrev is_free_of : ℕ → List ℕ → Bool
is_free_of sign text = list_all (λ byte. not (byte == sign)) text

abbrev is_raw : List ℕ → Bool
is_raw text = is_white (get_or text 0 0) && (is_free_of 125 text && is_free_of 123 text)

abbrev is_none : List ℕ → Bool
is_none [] = true
is_none (byte ∷ bytes) = false

abbrev begins_brace : List ℕ → Bool
begins_brace [] = false
begins_brace (byte ∷ bytes) = byte == 125

abbrev fits : Next → Piece → List ℕ → Bool
fits NextWord p rest = list_all is_white p.gap && (is_word_of p.kind p.text && ends_word rest)
fits NextBody p rest = is_none p.gap && (is_body p.kind && (is_raw p.text && begins_brace rest))
fits NextBrace p rest = is_none p.gap && (is_key p.kind && bytes_eq p.text (codes "}"))

-- what stands next after a piece, and whether a brace is awaited then
abbrev next_of : Piece → Bool → Next
next_of p awaits = cond (is_body p.kind) NextBrace (cond ((is_key p.kind && bytes_eq p.text (codes "{")) && awaits) NextBody NextWord)

abbrev awaits_of : Piece → Bool → Bool
awaits_of p awaits = (is_key p.kind && bytes_eq p.text (codes "actions")) || (not (is_key p.kind && bytes_eq p.text (codes "{")) && awaits)

abbrev is_outside : Next → Bool
is_outside NextWord = true
is_outside NextBody = false
is_outside NextBrace = false

-- whether all do
abbrev pub all_fit : Next → Bool → List Piece → List ℕ → Bool
all_fit next awaits [] last = is_outside next && list_all is_white last
all_fit next awaits (p ∷ ps) last = fits next p (written ps last) && all_fit (next_of p awaits) (awaits_of p awaits) ps last

-- ---- a piece that fits is a token

white_at : (gap : List ℕ) (k : ℕ) → list_all is_white gap ≡ true → k < length gap → is_white (get_or gap k 0) ≡ true
white_at [] k all low = absurd (omega (arith, low))
white_at (b ∷ bs) zero all low = (and_parts (is_white b) (list_all is_white bs) all).0
white_at (b ∷ bs) (suc k) all low = white_at bs k (and_parts (is_white b) (list_all is_white bs) all).1 (omega (arith, low))

white_from : (bytes : List ℕ) (place : ℕ) (gap rest : List ℕ) → IsAt bytes place (gap ++ rest) → list_all is_white gap ≡ true → IsWhite bytes place (place + length gap)
white_from bytes place gap rest at all k low high =
    let short : k - place < length gap = omega (arith, low, high) in
    let spot : k ≡ place + (k - place) = omega (arith, low) in
    ap (λ i. is_white (get_or bytes i 0)) spot ∙ ap is_white (at_byte bytes place (gap ++ rest) (k - place) at ∙ get_left gap rest (k - place) short) ∙ white_at gap (k - place) all short
  where
    get_left : (xs ys : List ℕ) (k : ℕ) → k < length xs → get_or (xs ++ ys) k 0 ≡ get_or xs k 0
    get_left [] ys k low = absurd (omega (arith, low))
    get_left (x ∷ xs) ys zero low = refl
    get_left (x ∷ xs) ys (suc k) low = get_left xs ys k (omega (arith, low))

ended : (rest : List ℕ) → ends_word rest ≡ true → EndsWord rest
ended [] e = inl refl
ended (b ∷ bs) e = inr e

none_is : (gap : List ℕ) → is_none gap ≡ true → gap ≡ []
none_is [] e = refl
none_is (b ∷ bs) e = cc

kind_is : (kind : TokenKind) (key : Bool) → is_kind kind key ≡ true → cond key kinds.Key kinds.Word ≡ kind
kind_is kinds.Word true e = cc
kind_is kinds.Word false e = refl
kind_is kinds.Key true e = refl
kind_is kinds.Key false e = cc
kind_is kinds.Body key e = cc

word_is : (kind : TokenKind) (text : List ℕ) → is_word_of kind text ≡ true → IsWordOf kind text text
word_is kind text e =
    let plain : (not (list_any is_special text) ≡ true) × ((not (length text == 0) && (not (get_or text 0 0 == 35) && is_kind kind (is_key_text text))) ≡ true) =
    and_parts (not (list_any is_special text)) (not (length text == 0) && (not (get_or text 0 0 == 35) && is_kind kind (is_key_text text))) e in
    let some : (not (length text == 0) ≡ true) × ((not (get_or text 0 0 == 35) && is_kind kind (is_key_text text)) ≡ true) =
    and_parts (not (length text == 0)) (not (get_or text 0 0 == 35) && is_kind kind (is_key_text text)) plain.1 in
    let last : (not (get_or text 0 0 == 35) ≡ true) × (is_kind kind (is_key_text text) ≡ true) = and_parts (not (get_or text 0 0 == 35)) (is_kind kind (is_key_text text)) some.1 in
    subst (λ k. IsWordOf k text text) (kind_is kind (is_key_text text) last.1)
    (bare_word text (is_key_text text) (not-true (list_any is_special text) plain.0) (some_of text (not-true (length text == 0) some.0)) (eqb-false (get_or text 0 0) 35 (not-true (get_or text 0 0 == 35) last.0)) refl)

none_counted : (sign : ℕ) (text : List ℕ) (k : ℕ) → is_free_of sign text ≡ true → count sign (take k text) ≡ 0
none_counted sign [] zero all = refl
none_counted sign [] (suc k) all = refl
none_counted sign (b ∷ bs) zero all = refl
none_counted sign (b ∷ bs) (suc k) all =
    let parts : (not (b == sign) ≡ true) × (is_free_of sign bs ≡ true) = and_parts (not (b == sign)) (is_free_of sign bs) all in
    let other : (b == sign) ≡ false = not-true (b == sign) parts.0 in
    let first : count sign (b ∷ []) ≡ 0 = rw other refl in
    let both : count sign (b ∷ take k bs) ≡ count sign (b ∷ []) + count sign (take k bs) = sum_by-append _ (b ∷ []) (take k bs) in
    omega (arith, both, first, none_counted sign bs k parts.1)

take_all : (text : List ℕ) → take (length text) text ≡ text
take_all [] = refl
take_all (b ∷ bs) = ap (λ l. b ∷ l) (take_all bs)

raw_is : (text : List ℕ) → is_raw text ≡ true → IsRaw text
raw_is text e =
    let parts : (is_white (get_or text 0 0) ≡ true) × ((is_free_of 125 text && is_free_of 123 text) ≡ true) = and_parts (is_white (get_or text 0 0)) (is_free_of 125 text && is_free_of 123 text) e in
    let free : (is_free_of 125 text ≡ true) × (is_free_of 123 text ≡ true) = and_parts (is_free_of 125 text) (is_free_of 123 text) parts.1 in
    record {
      white_first = parts.0;
      matched = λ k. omega (arith, none_counted 125 text k free.0);
      all_closed = ap (count 125) (sym (take_all text)) ∙ none_counted 125 text (length text) free.0 ∙ sym (ap (count 123) (sym (take_all text)) ∙ none_counted 123 text (length text) free.1);
    }

-- the line after some bytes
line_after : (bytes : List ℕ) (place line : ℕ) (text rest : List ℕ) → IsAt bytes place (text ++ rest) → line ≡ line_of bytes place → line + feeds text ≡ line_of bytes (place + length text)
line_after bytes place line text rest at is =
    ap (λ n. n + feeds text) is ∙ sym (lines_more bytes place (place + length text) (omega arith) ∙ ap (λ l. line_of bytes place + feeds l) (at_slice bytes place text rest at))

body_kind : (kind : TokenKind) → is_body kind ≡ true → kind ≡ kinds.Body
body_kind kinds.Body e = refl
body_kind kinds.Word e = cc
body_kind kinds.Key e = cc

key_kind : (kind : TokenKind) → is_key kind ≡ true → kind ≡ kinds.Key
key_kind kinds.Key e = refl
key_kind kinds.Word e = cc
key_kind kinds.Body e = cc

brace_first : (rest : List ℕ) → begins_brace rest ≡ true → (more : List ℕ) × (rest ≡ 125 ∷ more)
brace_first [] e = cc
brace_first (b ∷ bs) e = (bs, ap (λ x. x ∷ bs) (eqb-true b 125 e))

-- the token of a piece, after its gap
abbrev token_for : Piece → ℕ → ℕ → Token
token_for p place line = record { kind = p.kind; text = p.text; line = line + feeds p.gap; start = place + length p.gap; end = place + length p.gap + length p.text }

-- where nothing stands before it
bare_gap : (p : Piece) → p.gap ≡ [] → p ≡ record p { gap = [] }
bare_gap p e = ap (λ gap. record p { gap = gap }) e

next_is : (bytes : List ℕ) (next : Next) (p : Piece) (rest : List ℕ) (place line : ℕ) → IsAt bytes place (p.gap ++ (p.text ++ rest)) → line ≡ line_of bytes place → fits next p rest ≡ true
    → IsNextToken next bytes place (token_for p place line)
next_is bytes NextWord p rest place line at is e =
    let parts : (list_all is_white p.gap ≡ true) × ((is_word_of p.kind p.text && ends_word rest) ≡ true) = and_parts (list_all is_white p.gap) (is_word_of p.kind p.text && ends_word rest) e in
    let word : (is_word_of p.kind p.text ≡ true) × (ends_word rest ≡ true) = and_parts (is_word_of p.kind p.text) (ends_word rest) parts.1 in
    let next : IsAt bytes (place + length p.gap) (p.text ++ rest) = at_more bytes place p.gap (p.text ++ rest) at in
    let same : token_for p place line ≡ the_token bytes p.kind p.text (place + length p.gap) p.text =
    ap (λ n. record (token_for p place line) { line = n }) (line_after bytes place line p.gap (p.text ++ rest) at is) in
    subst (IsNextToken NextWord bytes place) (sym same)
    (word_token bytes place (place + length p.gap) p.kind p.text p.text rest (omega arith) (white_from bytes place p.gap (p.text ++ rest) at parts.0) next (word_is p.kind p.text word.0) (ended rest word.1))
next_is bytes NextBody p rest place line at is e = body_is parts.0 body.0 raw.0 (brace_first rest raw.1)
  where
    parts : (is_none p.gap ≡ true) × ((is_body p.kind && (is_raw p.text && begins_brace rest)) ≡ true)
    parts = and_parts (is_none p.gap) (is_body p.kind && (is_raw p.text && begins_brace rest)) e

    body : (is_body p.kind ≡ true) × ((is_raw p.text && begins_brace rest) ≡ true)
    body = and_parts (is_body p.kind) (is_raw p.text && begins_brace rest) parts.1

    raw : (is_raw p.text ≡ true) × (begins_brace rest ≡ true)
    raw = and_parts (is_raw p.text) (begins_brace rest) body.1

    body_is : is_none p.gap ≡ true → is_body p.kind ≡ true → is_raw p.text ≡ true → ((more : List ℕ) × (rest ≡ 125 ∷ more)) → IsNextToken NextBody bytes place (token_for p place line)
    body_is none kind text (more, brace) =
        let bare : p.gap ≡ [] = none_is p.gap none in
        let here : IsAt bytes place (p.text ++ 125 ∷ more) = subst (λ r. IsAt bytes place (p.text ++ r)) brace (subst (λ gap. IsAt bytes place (gap ++ (p.text ++ rest))) bare at) in
        let same : token_for p place line ≡ the_token bytes kinds.Body p.text place p.text =
        ap (λ gap. token_for (record p { gap = gap }) place line) bare ∙ ap (λ k. token_for (record p { gap = []; kind = k }) place line) (body_kind p.kind kind)
        ∙ bare_line more here in
        subst (IsNextToken NextBody bytes place) (sym same) (body_token bytes place p.text more here (raw_is p.text text))
      where
        bare_line : (more : List ℕ) → IsAt bytes place (p.text ++ 125 ∷ more) → token_for (record p { gap = []; kind = kinds.Body }) place line ≡ the_token bytes kinds.Body p.text place p.text
        bare_line more here =
            let start : place + 0 ≡ place = omega arith in
            let own : line + 0 ≡ line_of bytes place = omega (arith, is) in
            ap (λ n. record { kind = kinds.Body; text = p.text; line = line + 0; start = n; end = n + length p.text }) start
            ∙ ap (λ n. record { kind = kinds.Body; text = p.text; line = n; start = place; end = place + length p.text }) own
next_is bytes NextBrace p rest place line at is e =
    let parts : (is_none p.gap ≡ true) × ((is_key p.kind && bytes_eq p.text (codes "}")) ≡ true) = and_parts (is_none p.gap) (is_key p.kind && bytes_eq p.text (codes "}")) e in
    let key : (is_key p.kind ≡ true) × (bytes_eq p.text (codes "}") ≡ true) = and_parts (is_key p.kind) (bytes_eq p.text (codes "}")) parts.1 in
    let bare : p.gap ≡ [] = none_is p.gap parts.0 in
    let text : p.text ≡ codes "}" = (bytes_eq-Decides p.text (codes "}")).0 key.1 in
    record {
      begins = omega (arith, ap length bare);
      one_byte = omega (arith, ap length text);
      has_text = text;
      has_kind = key_kind p.kind key.0;
      has_line =
          let none : feeds p.gap ≡ 0 = ap feeds bare in
          let here : place ≡ place + length p.gap = omega (arith, ap length bare) in
          let own : line + feeds p.gap ≡ line = omega (arith, none) in
          own ∙ is ∙ ap (line_of bytes) here;
    }

-- ---- all of them

outside_is : (next : Next) → is_outside next ≡ true → next ≡ NextWord
outside_is NextWord e = refl
outside_is NextBody e = cc
outside_is NextBrace e = cc

add_nothing : (xs : List ℕ) → xs ++ [] ≡ xs
add_nothing [] = refl
add_nothing (x ∷ xs) = ap (λ l. x ∷ l) (add_nothing xs)

pub all_stand : (bytes : List ℕ) (ps : List Piece) (last : List ℕ) (read : List Token) (place line : ℕ) (next : Next) (awaits : Bool)
    → next_after read ≡ next → awaits_brace read ≡ awaits → place_after read ≡ place → line ≡ line_of bytes place → IsAt bytes place (written ps last) → all_fit next awaits ps last ≡ true
    → Stand bytes (IsEnd bytes) read (tokens_at place line ps)
all_stand bytes [] last read place line next awaits after awaited ends is at e =
    let parts : (is_outside next ≡ true) × (list_all is_white last ≡ true) = and_parts (is_outside next) (list_all is_white last) e in
    let size : place + length last ≡ length bytes = omega (arith, at_length bytes place last at) in
    record {
      outside = after ∙ outside_is next parts.0;
      gap = subst (λ from. IsGap bytes from (length bytes)) (sym ends)
          (subst (IsGap bytes place) size (white_gap bytes place (place + length last) (white_from bytes place last [] (subst (IsAt bytes place) (sym (add_nothing last)) at) parts.1)));
    }
all_stand bytes (p ∷ ps) last read place line next awaits after awaited ends is at e =
    let parts : (fits next p (written ps last) ≡ true) × (all_fit (next_of p awaits) (awaits_of p awaits) ps last ≡ true) = and_parts (fits next p (written ps last)) (all_fit (next_of p awaits) (awaits_of p awaits) ps last) e in
    let text_at : IsAt bytes (place + length p.gap) (p.text ++ written ps last) = at_more bytes place p.gap (p.text ++ written ps last) at in
    let gap_line : line + feeds p.gap ≡ line_of bytes (place + length p.gap) = line_after bytes place line p.gap (p.text ++ written ps last) at is in (
      subst (λ n. IsNextToken n bytes (place_after read) (token_for p place line)) (sym after)
          (subst (λ from. IsNextToken next bytes from (token_for p place line)) (sym ends) (next_is bytes next p (written ps last) place line at is parts.0)),
      all_stand bytes ps last (token_for p place line ∷ read) (place + length p.gap + length p.text) (line + feeds p.gap + feeds p.text) (next_of p awaits) (awaits_of p awaits)
          (ap (λ b. cond (is_body p.kind) NextBrace (cond ((is_key p.kind && bytes_eq p.text (codes "{")) && b) NextBody NextWord)) awaited)
          (ap (λ b. (is_key p.kind && bytes_eq p.text (codes "actions")) || (not (is_key p.kind && bytes_eq p.text (codes "{")) && b)) awaited)
          refl (line_after bytes (place + length p.gap) (line + feeds p.gap) p.text (written ps last) text_at gap_line)
          (at_more bytes (place + length p.gap) p.text (written ps last) text_at) parts.1,
    )
