-- A word, or a body before its brace, that stands at a place in the bytes is a token there; white space is a gap.
use Rattle.std.proofs.Common.{◌≡◌, ℕ, ◌+◌, ◌-◌, ◌<◌, ◌≤◌, true, false, ◌⊎◌, inl, inr, List, [], ◌∷◌, ◌++◌, length, get_or, take, drop, slice_range, refl, sym, ◌∙◌, ap, subst, arith}
use Rattle.std.specs.List.{list_any}
use Rattle.std.proofs.lemmas.Bool.{true≢false}
use Rattle.std.proofs.lemmas.List.{drop-drop, drop_at, take_at, take-append-le, get_or-drop, get_or_append_left, length-drop, length-append}
use Rattle.b2_base.specs.declared.token.TokenKind.{TokenKind}
use Rattle.b2_base.specs.declared.token.TokenKind.TheVariants as kinds
use Rattle.b2_base.specs.declared.token.Token.{Token}
use Rattle.jam_lexer.specs.Signs.{line_of}
use Rattle.b2_base.specs.Bytes.{is_white}
use Rattle.jam_lexer.specs.Gap.{IsGap, IsInComment}
use Rattle.jam_lexer.specs.Word.{letters, is_lone, in_quotes, IsUnbroken, text_of, kind_of}
use Rattle.jam_lexer.specs.Body.{count_of}
use Rattle.jam_lexer.specs.Tokens.{IsWordToken, IsBodyToken}
use Rattle.jam_spelling.specs.LexemeLists.{count, IsRaw}
use Rattle.jam_spelling.proofs.PlainTextsNeedNoQuotes.{IsWordOf}

-- these bytes stand from the place on, up to the end
pub record IsAt (bytes : List ℕ) (at : ℕ) (rest : List ℕ) : Type 0 where
  pub within : at ≤ length bytes
  pub rest_is : drop at bytes ≡ rest

pub at_length : (bytes : List ℕ) (at : ℕ) (rest : List ℕ) → IsAt bytes at rest → length bytes ≡ at + length rest
at_length bytes at rest is = omega (arith, is.within, ap length is.rest_is, length-drop at bytes)

pub at_byte : (bytes : List ℕ) (at : ℕ) (rest : List ℕ) (k : ℕ) → IsAt bytes at rest → get_or bytes (at + k) 0 ≡ get_or rest k 0
at_byte bytes at rest k is = sym (get_or-drop at bytes k 0) ∙ ap (λ ys. get_or ys k 0) is.rest_is

-- after a piece
pub at_more : (bytes : List ℕ) (at : ℕ) (piece rest : List ℕ) → IsAt bytes at (piece ++ rest) → IsAt bytes (at + length piece) rest
at_more bytes at piece rest is =
    record {
      within = omega (arith, at_length bytes at (piece ++ rest) is, length-append piece rest);
      rest_is = sym (drop-drop (length piece) at bytes) ∙ ap (drop (length piece)) is.rest_is ∙ drop_at piece rest (length piece) refl;
    }

-- the piece is what stands between its places
pub at_slice : (bytes : List ℕ) (at : ℕ) (piece rest : List ℕ) → IsAt bytes at (piece ++ rest) → slice_range bytes at (at + length piece) ≡ piece
at_slice bytes at piece rest is =
    let size : at + length piece - at ≡ length piece = omega arith in
    ap (λ n. take n (drop at bytes)) size ∙ ap (take (length piece)) is.rest_is ∙ take_at piece rest (length piece) refl

-- ---- white space

-- white space alone stands between the places
abbrev pub IsWhite : List ℕ → ℕ → ℕ → Type 0
IsWhite bytes from to = (k : ℕ) → from ≤ k → k < to → is_white (get_or bytes k 0) ≡ true

white_is_no_hash : (b : ℕ) → is_white b ≡ true → b ≡ 35 → ⊥
white_is_no_hash b white e = true≢false (sym white ∙ ap is_white e)

no_comment : (bytes : List ℕ) (from to : ℕ) → IsWhite bytes from to → IsInComment bytes from to → ⊥
no_comment bytes from to white c = white_is_no_hash (get_or bytes c.sign 0) (white c.sign c.after c.before) c.is_hash

pub white_gap : (bytes : List ℕ) (from to : ℕ) → IsWhite bytes from to → IsGap bytes from to
white_gap bytes from to white k low high = inl (white k low high)

-- ---- the token of a word

-- a word ends before these bytes: none are left, or white space comes first
abbrev pub EndsWord : List ℕ → Type 0
EndsWord tail = (tail ≡ []) ⊎ (is_white (get_or tail 0 0) ≡ true)

-- the token of a piece
abbrev pub the_token : List ℕ → TokenKind → List ℕ → ℕ → List ℕ → Token
the_token bytes kind text start piece = record { kind = kind; text = text; line = line_of bytes start; start = start; end = start + length piece }

pub word_token : (bytes : List ℕ) (from start : ℕ) (kind : TokenKind) (text piece tail : List ℕ) → from ≤ start → IsWhite bytes from start → IsAt bytes start (piece ++ tail) → IsWordOf kind text piece → EndsWord tail → IsWordToken bytes from (the_token bytes kind text start piece)
word_token bytes from start kind text piece tail order white is word ends =
    let slice : slice_range bytes start (start + length piece) ≡ piece = at_slice bytes start piece tail is in
    let after : IsAt bytes (start + length piece) tail = at_more bytes start piece tail is in
    let first : get_or bytes start 0 ≡ get_or piece 0 0 = ap (λ i. get_or bytes i 0) (omega arith) ∙ at_byte bytes start (piece ++ tail) 0 is ∙ get_or_append_left piece tail 0 0 word.some in
    record {
      begins = record {
        after = order;
        within = omega (arith, word.some, at_length bytes start (piece ++ tail) is, length-append piece tail);
        gap = white_gap bytes from start white;
        no_comment = no_comment bytes from start white;
        no_white = ap is_white first ∙ word.no_white;
        no_hash = λ hash. word.no_hash (sym first ∙ hash);
      };
      word = record {
        order = omega arith;
        within = after.within;
        unbroken = subst (λ w. IsUnbroken (letters w)) (sym slice) word.unbroken;
        closed = ap (λ w. in_quotes (letters w)) slice ∙ word.closed;
        ends = go slice after ends;
      };
      has_text = sym word.has_text ∙ ap text_of (sym slice);
      has_kind = sym word.has_kind ∙ ap kind_of (sym slice);
      has_line = refl;
    }
  where
    go : slice_range bytes start (start + length piece) ≡ piece → IsAt bytes (start + length piece) tail → EndsWord tail → (start + length piece ≡ length bytes) ⊎ ((is_white (get_or bytes (start + length piece) 0) ≡ true) × (list_any is_lone (letters (slice_range bytes start (start + length piece))) ≡ false))
    go slice after (inl none) = inl (omega (arith, at_length bytes (start + length piece) tail after, ap length none))
    go slice after (inr some) = inr (
      ap (λ i. is_white (get_or bytes i 0)) (omega arith) ∙ ap is_white (at_byte bytes (start + length piece) tail 0 after) ∙ some,
      ap (λ w. list_any is_lone (letters w)) slice ∙ word.whole,
    )

-- ---- the token of a body

-- a prefix of the body, counted in the text
prefix_count : (bytes : List ℕ) (start : ℕ) (raw tail : List ℕ) (sign k : ℕ) → IsAt bytes start (raw ++ tail) → start ≤ k → k ≤ start + length raw → count_of sign bytes start k ≡ count sign (take (k - start) raw)
prefix_count bytes start raw tail sign k is low high =
    let short : k - start ≤ length raw = omega arith in
    ap (count sign) (ap (take (k - start)) is.rest_is ∙ take-append-le (k - start) raw tail short)

pub body_token : (bytes : List ℕ) (start : ℕ) (raw tail : List ℕ) → IsAt bytes start (raw ++ 125 ∷ tail) → IsRaw raw → IsBodyToken bytes start (the_token bytes kinds.Body raw start raw)
body_token bytes start raw tail is is_raw =
    let slice : slice_range bytes start (start + length raw) ≡ raw = at_slice bytes start raw (125 ∷ tail) is in
    let after : IsAt bytes (start + length raw) (125 ∷ tail) = at_more bytes start raw (125 ∷ tail) is in
    record {
      begins = refl;
      body = record {
        order = omega arith;
        within = omega (arith, at_length bytes (start + length raw) (125 ∷ tail) after);
        matched = λ k low high. omega (arith, prefix_count bytes start raw (125 ∷ tail) 125 k is low high, prefix_count bytes start raw (125 ∷ tail) 123 k is low high, is_raw.matched (k - start));
        all_closed = ap (count 125) slice ∙ is_raw.all_closed ∙ sym (ap (count 123) slice);
        brace = ap (λ i. get_or bytes i 0) (omega arith) ∙ at_byte bytes (start + length raw) (125 ∷ tail) 0 after;
      };
      has_text = sym slice;
      has_kind = refl;
      has_line = refl;
    }
