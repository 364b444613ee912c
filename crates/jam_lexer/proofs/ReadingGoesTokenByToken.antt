-- Tokens read so far grow by a word, or by a body and its brace, up to the end or to a quote or body left open.
use Rattle.std.proofs.Common.{◌≡◌, ℕ, ◌+◌, ◌<◌, ◌≤◌, Bool, true, false, not, ◌&&◌, ◌||◌, cond, ◌⊎◌, inl, inr, slice_range, get_or, List, [], ◌∷◌, ◌++◌, length, codes, refl, sym, ◌∙◌, ap, subst, arith}
use Rattle.std.specs.List.{list_any}
use Rattle.std.proofs.lemmas.Bool.{cases_lt, true≢false}
use Rattle.std.specs.Str.{IsUtf8}
use Rattle.b2_base.specs.declared.token.TokenKind.TheVariants as kinds
use Rattle.std.proofs.lemmas.Str.{IsCharBoundary-after_ascii, IsCharBoundary-start}
use Rattle.b2_base.specs.declared.token.Token.{Token}
use Rattle.jam_lexer.specs.declared.reading.LexPlace.{LexPlace}
use Rattle.jam_lexer.specs.Signs.{line_of}
use Rattle.b2_base.specs.Bytes.{is_white}
use Rattle.jam_lexer.specs.Tokens.{NextWord, NextBody, NextBrace, place_after, awaits_brace, is_the_key, is_body, IsNextToken, IsWordToken, IsBodyToken, Follows, Stand, IsEnd}
use Rattle.jam_lexer.specs.Gap.{IsGap, BeginsWord}
use Rattle.jam_lexer.specs.Word.{IsWord, IsOpenWord, letters, is_lone, text_of, kind_of, is_bare, is_key_text}
use Rattle.jam_lexer.specs.Body.{IsBody, IsMatched}
use Rattle.jam_lexer.specs.Answers.{MeetsOpenQuote, MeetsOpenActions}
use Rattle.jam_lexer.specs.Progress.{HasRead, HasOpened}
use Rattle.jam_lexer.proofs.LinesGrowByLineFeeds.{line_over}
use Rattle.jam_lexer.proofs.WordsCutNoCharacter.{word_end_boundary}

-- one token more has been read
pub stand_more : (bytes : List ℕ) (read : List Token) (token : Token) → Follows bytes read token → (before tokens : List Token) → Stand bytes (λ seen. seen ≡ read) before tokens → Stand bytes (λ seen. seen ≡ token ∷ read) before (tokens ++ token ∷ [])
stand_more bytes read token follows before [] stand = (subst (λ r. Follows bytes r token) (sym stand) follows, ap (λ r. token ∷ r) stand)
stand_more bytes read token follows before (t ∷ tokens) stand = (stand.0, stand_more bytes read token follows (t ∷ before) tokens stand.1)

-- what holds after the tokens that have been read
pub stand_then : (bytes : List ℕ) (Last : List Token → Type 0) (read : List Token) → Last read → (before tokens : List Token) → Stand bytes (λ seen. seen ≡ read) before tokens → Stand bytes Last before tokens
stand_then bytes Last read last before [] stand = subst Last (sym stand) last
stand_then bytes Last read last before (t ∷ tokens) stand = (stand.0, stand_then bytes Last read last (t ∷ before) tokens stand.1)

-- ---- a word

abbrev pub the_word : List ℕ → ℕ → ℕ → ℕ → Token
the_word bytes start end line = record { kind = kind_of (slice_range bytes start end); text = text_of (slice_range bytes start end); line = line; start = start; end = end }

word_is_no_body : (word : List ℕ) → is_body (kind_of word) ≡ false
word_is_no_body word = elim (is_bare word && is_key_text (text_of word)) as (λ t. is_body (cond t kinds.Key kinds.Word) ≡ false) [ true ↦ refl | false ↦ refl ]

-- a word is not empty
pub word_goes : (bytes : List ℕ) (from start end : ℕ) → BeginsWord bytes from start → IsWord bytes start end → start < end
word_goes bytes from start end begins word = go (cases_lt start end) word.ends
  where
    go : (start < end) ⊎ (end ≤ start) → (end ≡ length bytes) ⊎ ((is_white (get_or bytes end 0) ≡ true) × (list_any is_lone (letters (slice_range bytes start end)) ≡ false)) → start < end
    go (inl less) ends = less
    go (inr more) (inl last) = omega (arith, begins.within, last, more)
    go (inr more) (inr white) =
        let same : end ≡ start = omega (arith, word.order, more) in
        absurd (true≢false (sym white.0 ∙ ap (λ i. is_white (get_or bytes i 0)) same ∙ begins.no_white))

-- a word more has been read
pub word_read : (bytes : List ℕ) (tokens : List Token) (place : LexPlace) (start end line after : ℕ) (opens : Bool) →
    HasRead bytes NextWord tokens place → BeginsWord bytes place.at start → IsWord bytes start end → line ≡ line_of
    bytes start → after ≡ line_of bytes end → opens ≡ (is_the_key (codes "{") (the_word bytes start end line) &&
    place.awaits) → HasRead bytes (cond opens NextBody NextWord) (tokens ++ the_word bytes start end line ∷ [])
    (record {
      at = end;
      line = after;
      awaits = is_the_key (codes "actions") (the_word bytes start end line) || (not
          (is_the_key (codes "{") (the_word bytes start end line)) && place.awaits);
    })
word_read bytes tokens place start end line after opens has begins word line_is after_is opens_is =
    let token : Token = the_word bytes start end line in
    let is_word : IsWordToken bytes (place_after has.read) token = record { begins = subst (λ p. BeginsWord bytes p start) (sym has.place_is) begins; word = word; has_text = refl; has_kind = refl; has_line = line_is } in
    record {
      read = token ∷ has.read;
      stand = stand_more bytes has.read token (subst (λ n. IsNextToken n bytes (place_after has.read) token) (sym has.next_is) is_word) [] tokens has.stand;
      next_is =
          ap (λ t. cond t NextBrace (cond (is_the_key (codes "{") token && awaits_brace has.read) NextBody NextWord)) (word_is_no_body (slice_range bytes start end))
          ∙ ap (λ a. cond (is_the_key (codes "{") token && a) NextBody NextWord) has.awaits_is
          ∙ ap (λ t. cond t NextBody NextWord) (sym opens_is);
      place_is = refl;
      awaits_is = ap (λ a. is_the_key (codes "actions") token || (not (is_the_key (codes "{") token) && a)) has.awaits_is;
      line_is = after_is;
      within = word.within;
      boundary = word_end_boundary bytes start end word;
    }

-- a Key `{` that opens a body
pub word_opens : (bytes : List ℕ) (tokens : List Token) (place : LexPlace) (start end line after : ℕ) → HasRead bytes
    NextWord tokens place → BeginsWord bytes place.at start → IsWord bytes start end → line ≡ line_of bytes start →
    after ≡ line_of bytes end → true ≡ (is_the_key (codes "{") (the_word bytes start end line) && place.awaits) →
    HasOpened bytes (tokens ++ the_word bytes start end line ∷ []) (record {
      at = end;
      line = after;
      awaits =
          is_the_key (codes "actions") (the_word bytes start end line) || (not (is_the_key (codes "{") (the_word bytes start
          end line)) && place.awaits);
    }) line
unfolding word_read
word_opens bytes tokens place start end line after has begins word line_is after_is opens_is =
    record { has_read = word_read bytes tokens place start end line after true has begins word line_is after_is opens_is; last_is = refl }

-- ---- a body and its brace

abbrev pub the_body : List ℕ → ℕ → ℕ → ℕ → Token
the_body bytes start end line = record { kind = kinds.Body; text = slice_range bytes start end; line = line; start = start; end = end }

abbrev pub the_brace : ℕ → ℕ → Token
the_brace at line = record { kind = kinds.Key; text = codes "}"; line = line; start = at; end = at + 1 }

-- a body and its brace more have been read
pub body_read : (bytes : List ℕ) (tokens : List Token) (place : LexPlace) (end line : ℕ) → IsUtf8 bytes → HasRead bytes NextBody tokens place → IsBody bytes place.at end → line ≡ line_of bytes end → HasRead bytes NextWord ((tokens ++ the_body bytes place.at end place.line ∷ []) ++ the_brace end line ∷ []) (record { at = end + 1; line = line; awaits = place.awaits })
body_read bytes tokens place end line utf8 has body line_is =
    let first : Token = the_body bytes place.at end place.line in
    let is_body_token : IsBodyToken bytes (place_after has.read) first = record { begins = sym has.place_is; body = body; has_text = refl; has_kind = refl; has_line = has.line_is } in
    record {
      read = the_brace end line ∷ first ∷ has.read;
      stand =
          stand_more bytes (first ∷ has.read) (the_brace end line) (record { begins = refl; one_byte = refl; has_text = refl; has_kind = refl; has_line = line_is }) [] (tokens ++ first ∷ [])
          (stand_more bytes has.read first (subst (λ n. IsNextToken n bytes (place_after has.read) first) (sym has.next_is) is_body_token) [] tokens has.stand);
      next_is = refl;
      place_is = refl;
      awaits_is = has.awaits_is;
      line_is = line_is ∙ sym (line_over bytes end body.within (λ feed. omega (arith, feed, body.brace)));
      within = omega (arith, body.within);
      boundary = IsCharBoundary-after_ascii bytes end utf8 body.within (omega (arith, body.brace));
    }

-- ---- the beginning, the end and the faults

pub nothing_read : (bytes : List ℕ) → IsUtf8 bytes → HasRead bytes NextWord [] (record { at = 0; line = 1; awaits = false })
nothing_read bytes utf8 = record { read = []; stand = refl; next_is = refl; place_is = refl; awaits_is = refl; line_is = refl; within = omega arith; boundary = IsCharBoundary-start bytes utf8 }

pub all_read : (bytes : List ℕ) (tokens : List Token) (place : LexPlace) → HasRead bytes NextWord tokens place → IsGap bytes place.at (length bytes) → Stand bytes (IsEnd bytes) [] tokens
all_read bytes tokens place has gap = stand_then bytes (IsEnd bytes) has.read (record { outside = has.next_is; gap = subst (λ p. IsGap bytes p (length bytes)) (sym has.place_is) gap }) [] tokens has.stand

pub meets_open_quote : (bytes : List ℕ) (tokens : List Token) (place : LexPlace) (start line : ℕ) → HasRead bytes NextWord tokens place → BeginsWord bytes place.at start → IsOpenWord bytes start → line ≡ line_of bytes start → Stand bytes (MeetsOpenQuote bytes line) [] tokens
meets_open_quote bytes tokens place start line has begins unclosed on_line =
    stand_then bytes (MeetsOpenQuote bytes line) has.read
    (record { start = start; outside = has.next_is; begins = subst (λ p. BeginsWord bytes p start) (sym has.place_is) begins; unclosed = unclosed; on_line = on_line })
    [] tokens has.stand

pub meets_open_actions : (bytes : List ℕ) (tokens : List Token) (place : LexPlace) (line : ℕ) → HasOpened bytes tokens place line → IsMatched bytes place.at (length bytes) → Stand bytes (MeetsOpenActions bytes line) [] tokens
meets_open_actions bytes tokens place line opened matched =
    let has : HasRead bytes NextBody tokens place = opened.has_read in
    stand_then bytes (MeetsOpenActions bytes line) has.read
    (record { inside = has.next_is; unclosed = subst (λ p. IsMatched bytes p (length bytes)) (sym has.place_is) matched; on_line = opened.last_is })
    [] tokens has.stand
