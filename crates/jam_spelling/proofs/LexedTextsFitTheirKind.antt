-- In the tokens of a text each key has the text of a key and each body is raw, so all of them can be written again.
use Rattle.std.proofs.Common.{◌≡◌, ℕ, ◌+◌, ◌-◌, ◌<◌, ◌≤◌, Bool, true, false, cond, ◌&&◌, ◌⊎◌, inl, inr, List, [], ◌∷◌, length, get_or, take, drop, slice_range, codes, refl, sym, ◌∙◌, ap, subst, arith}
use Rattle.std.specs.List.{All, list_any}
use Rattle.std.specs.Str.{bytes_eq}
use Rattle.std.proofs.lemmas.Bool.{false≢true, cases_lt, and_parts}
use Rattle.std.proofs.lemmas.List.{take-take, take_all, get_or-take, get_or-drop, length-take}
use Rattle.std.proofs.lemmas.List.Elements.{All-nil, All-cons}
use Rattle.b2_base.specs.declared.token.TokenKind.TheVariants as kinds
use Rattle.b2_base.specs.declared.token.Token.{Token}
use Rattle.b2_base.specs.Bytes.{is_white}
use Rattle.jam_lexer.specs.Word.{letters, is_lone, text_of, is_bare, is_key_text, kind_of}
use Rattle.jam_lexer.specs.Body.{IsBody}
use Rattle.jam_lexer.specs.Tokens.{Next, NextWord, NextBody, NextBrace, next_after, place_after, awaits_brace, is_the_key, is_key, is_body, IsNextToken, IsWordToken, IsBodyToken, IsBraceToken, Follows, Stand, IsEnd, AreTokens}
use Rattle.jam_spelling.specs.LexemeLists.{count, IsRaw}

-- what a token of its kind may say
abbrev pub SaysRight : Token → Type 0
SaysRight token = (token.kind ≡ kinds.Key → is_key_text token.text ≡ true) × (token.kind ≡ kinds.Body → IsRaw token.text)

-- ---- a word or a key

word_says : (word : List ℕ) → (kind_of word ≡ kinds.Key → is_key_text (text_of word) ≡ true) × (kind_of word ≡ kinds.Body → ⊥)
word_says word = go (is_bare word && is_key_text (text_of word)) refl
  where
    go : (t : Bool) → (is_bare word && is_key_text (text_of word)) ≡ t → (cond t kinds.Key kinds.Word ≡ kinds.Key → is_key_text (text_of word) ≡ true) × (cond t kinds.Key kinds.Word ≡ kinds.Body → ⊥)
    go true e = ((λ same. (and_parts (is_bare word) (is_key_text (text_of word)) e).1), (λ same. cc))
    go false e = ((λ same. cc), (λ same. cc))

word_right : (bytes : List ℕ) (from : ℕ) (token : Token) → IsWordToken bytes from token → SaysRight token
word_right bytes from token is = (
  (λ key. ap is_key_text is.has_text ∙ (word_says (slice_range bytes token.start token.end)).0 (sym is.has_kind ∙ key)),
  (λ body. absurd ((word_says (slice_range bytes token.start token.end)).1 (sym is.has_kind ∙ body))),
)

brace_right : (bytes : List ℕ) (from : ℕ) (token : Token) → IsBraceToken bytes from token → SaysRight token
brace_right bytes from token is = ((λ key. ap is_key_text is.has_text), (λ body. let never : kinds.Key ≡ kinds.Body = sym is.has_kind ∙ body in cc))

-- ---- a body

-- the last token that has been read follows those before it
abbrev IsSound : List ℕ → List Token → Type 0
IsSound bytes [] = Unit {0}
IsSound bytes (last ∷ earlier) = Follows bytes earlier last

opens_of : (body brace awaits : Bool) → cond body NextBrace (cond (brace && awaits) NextBody NextWord) ≡ NextBody → brace ≡ true
opens_of true brace awaits e = cc
opens_of false true awaits e = refl
opens_of false false awaits e = cc

-- white space stands after the key that opens a body
white_after : (bytes : List ℕ) (read : List Token) → IsSound bytes read → next_after read ≡ NextBody → place_after read < length bytes → is_white (get_or bytes (place_after read) 0) ≡ true
white_after bytes [] sound next within = cc
white_after bytes (last ∷ earlier) sound next within = go (next_after earlier) sound
  where
    opens : is_the_key (codes "{") last ≡ true
    opens = opens_of (is_body last.kind) (is_the_key (codes "{") last) (awaits_brace earlier) next

    parts : (is_key last.kind ≡ true) × (bytes_eq last.text (codes "{") ≡ true)
    parts = and_parts (is_key last.kind) (bytes_eq last.text (codes "{")) opens

    go : (n : Next) → IsNextToken n bytes (place_after earlier) last → is_white (get_or bytes last.end 0) ≡ true
    go NextWord is = ends is.word.ends
      where
        ends : (last.end ≡ length bytes) ⊎ ((is_white (get_or bytes last.end 0) ≡ true) × (list_any is_lone (letters (slice_range bytes last.start last.end)) ≡ false)) → is_white (get_or bytes last.end 0) ≡ true
        ends (inl end) = absurd (omega (arith, end, within))
        ends (inr white) = white.0
    go NextBody is = absurd (false≢true (sym (ap is_key is.has_kind) ∙ parts.0))
    go NextBrace is = absurd (false≢true (sym (ap (λ t. bytes_eq t (codes "{")) is.has_text) ∙ parts.1))

module _ (bytes : List ℕ) (start end : ℕ) (is : IsBody bytes start end) (white : is_white (get_or bytes start 0) ≡ true) where
  text : List ℕ
  text = slice_range bytes start end

  -- the brace that ends a body is not white
  filled : start < end
  filled = go (cases_lt start end)
    where
      go : (start < end) ⊎ (end ≤ start) → start < end
      go (inl less) = less
      go (inr more) =
          let same : end ≡ start = omega (arith, is.order, more) in
          absurd (false≢true (sym (ap is_white (sym (ap (λ i. get_or bytes i 0) same) ∙ is.brace)) ∙ white))

  first : get_or text 0 0 ≡ get_or bytes start 0
  unfolding text
  first = get_or-take (end - start) (drop start bytes) 0 0 (omega (arith, filled)) ∙ get_or-drop start bytes 0 0 ∙ ap (λ i. get_or bytes i 0) (omega arith)

  matched : (k : ℕ) → count 125 (take k text) ≤ count 123 (take k text)
  unfolding text
  matched k = go (cases_lt (end - start) k)
    where
      go : (end - start < k) ⊎ (k ≤ end - start) → count 125 (take k text) ≤ count 123 (take k text)
      go (inl past) = subst (λ t. count 125 t ≤ count 123 t) (sym (take_all k text (omega (arith, length-take (end - start) (drop start bytes))))) (is.matched end is.order (omega arith))
      go (inr within) =
          let size : start + k - start ≡ k = omega arith in
          subst (λ t. count 125 t ≤ count 123 t) (ap (λ n. take n (drop start bytes)) size ∙ sym (take-take k (end - start) (drop start bytes) within)) (is.matched (start + k) (omega arith) (omega (arith, filled)))

  body_is_raw : IsRaw text
  unfolding text
  body_is_raw = record { white_first = ap is_white first ∙ white; matched = matched; all_closed = is.all_closed }

body_right : (bytes : List ℕ) (read : List Token) (token : Token) → IsSound bytes read → next_after read ≡ NextBody → IsBodyToken bytes (place_after read) token → SaysRight token
unfolding text
body_right bytes read token sound next is = ((λ key. let never : kinds.Body ≡ kinds.Key = sym is.has_kind ∙ key in cc), (λ body. subst IsRaw (sym is.has_text) (body_is_raw bytes token.start token.end is.body white)))
  where
    white : is_white (get_or bytes token.start 0) ≡ true
    white = ap (λ i. is_white (get_or bytes i 0)) is.begins ∙ white_after bytes read sound next (omega (arith, is.begins, is.body.order, is.body.within))

-- ---- all tokens

right : (bytes : List ℕ) (read : List Token) (token : Token) → IsSound bytes read → Follows bytes read token → SaysRight token
right bytes read token sound follows = go (next_after read) refl follows
  where
    go : (n : Next) → next_after read ≡ n → IsNextToken n bytes (place_after read) token → SaysRight token
    go NextWord next is = word_right bytes (place_after read) token is
    go NextBody next is = body_right bytes read token sound next is
    go NextBrace next is = brace_right bytes (place_after read) token is

all_right : (bytes : List ℕ) (read tokens : List Token) → IsSound bytes read → Stand bytes (IsEnd bytes) read tokens → All SaysRight tokens
all_right bytes read [] sound stand = All-nil SaysRight
all_right bytes read (token ∷ tokens) sound stand = All-cons SaysRight token tokens (right bytes read token sound stand.0) (all_right bytes (token ∷ read) tokens stand.0 stand.1)

pub lexed_right : (bytes : List ℕ) (tokens : List Token) → AreTokens bytes tokens → All SaysRight tokens
lexed_right bytes tokens are = all_right bytes [] tokens tt are.1
