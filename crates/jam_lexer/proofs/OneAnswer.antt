-- A text has one answer.
use Rattle.std.proofs.Common.{◌≡◌, ◌≢◌, ℕ, suc, ◌+◌, ◌<◌, ◌≤◌, true, false, cond, ◌==◌, ◌⊎◌, inl, inr, List, [], ◌∷◌, ◌++◌, length, get_or, take, slice_range, refl, sym, ◌∙◌, ap, subst, arith, Result, Ok, Err}
use Rattle.std.specs.List.{list_any}
use Rattle.std.proofs.lemmas.Bool.{cases_lt, cases_order, true≢false, ne_eqb}
use Rattle.std.proofs.lemmas.List.{take_at, get_or_at}
use Rattle.b2_base.specs.declared.token.Token.{Token}
use Rattle.jam_lexer.specs.Signs.{line_of}
use Rattle.b2_base.specs.Bytes.{is_white}
use Rattle.jam_lexer.specs.Gap.{IsGap, IsInComment, BeginsWord}
use Rattle.jam_lexer.specs.Word.{Letter, Plain, Lone, letters, is_lone, is_space, in_quotes, IsUnbroken, IsWord, IsOpenWord, text_of, kind_of}
use Rattle.jam_lexer.specs.Body.{IsMatched, IsBody}
use Rattle.jam_lexer.specs.Tokens.{Next, NextWord, NextBody, NextBrace, next_after, place_after, IsNextToken, IsWordToken, IsBodyToken, IsBraceToken, Follows, Stand, IsEnd, AreTokens}
use Rattle.jam_lexer.specs.Answers.{MeetsOpenQuote, MeetsOpenActions, IsOpenQuote, IsOpenActions, IsAnswer}
use Rattle.jam_lexer.specs.declared.fault.LexFault.{LexFault}
use Rattle.jam_lexer.specs.declared.fault.LexFault.TheVariants as faults
use Rattle.jam_lexer.proofs.FirstBadByteEndsText.{one_bad, bad_is_no_text}
use Rattle.jam_lexer.proofs.SlicesJoinAndStayTexts.{slice_none, slice_more, slice_split}
use Rattle.jam_lexer.proofs.WordsGrowLetterByLetter.{letters_append, letters_plain}
use Rattle.jam_lexer.proofs.DepthCountsOpenBraces.{count_more}

-- ---- gaps

-- no gap goes past the beginning of a word
begins_stops : (bytes : List ℕ) (from start to : ℕ) → BeginsWord bytes from start → IsGap bytes from to → to ≤ start
begins_stops bytes from start to begins gap = go (cases_lt start to)
  where
    comment : IsInComment bytes from (suc start) → ⊥
    comment c = at (cases_lt c.sign start)
      where
        at : (c.sign < start) ⊎ (start ≤ c.sign) → ⊥
        at (inl less) = begins.no_comment (record { sign = c.sign; after = c.after; before = less; is_hash = c.is_hash; one_line = λ k low high. c.one_line k low (omega arith) })
        at (inr more) =
            let before : c.sign < suc start = c.before in
            let same : c.sign ≡ start = omega arith in
            begins.no_hash (subst (λ i. get_or bytes i 0 ≡ 35) same c.is_hash)

    byte : (is_white (get_or bytes start 0) ≡ true) ⊎ IsInComment bytes from (suc start) → to ≤ start
    byte (inl white) = absurd (true≢false (sym white ∙ begins.no_white))
    byte (inr c) = absurd (comment c)

    go : (start < to) ⊎ (to ≤ start) → to ≤ start
    go (inl less) = byte (gap start begins.after less)
    go (inr more) = more

one_start : (bytes : List ℕ) (from s t : ℕ) → BeginsWord bytes from s → BeginsWord bytes from t → s ≡ t
one_start bytes from s t a b = omega (arith, begins_stops bytes from s t a b.gap, begins_stops bytes from t s b a.gap)

-- ---- words

slice_cons : (bytes : List ℕ) (from to : ℕ) → from < to → to ≤ length bytes → slice_range bytes from to ≡ get_or bytes from 0 ∷ slice_range bytes (from + 1) to
slice_cons bytes from to less within =
    slice_split bytes from (from + 1) to (omega arith) (omega arith)
    ∙ ap (λ prefix. prefix ++ slice_range bytes (from + 1) to) (slice_more bytes from from (omega arith) (omega arith) ∙ ap (λ prefix. prefix ++ get_or bytes from 0 ∷ []) (slice_none bytes from))

white_is_no_backslash : (b : ℕ) → is_white b ≡ true → b ≢ 92
white_is_no_backslash b white e = true≢false (sym white ∙ ap is_white e)

-- after a whole word the white space is outside quotes
word_stops : (bytes : List ℕ) (start end to : ℕ) → IsWord bytes start end → end < to → to ≤ length bytes → IsUnbroken (letters (slice_range bytes start to)) → ⊥
word_stops bytes start end to word less within unbroken = go word.ends
  where
    prefix : List Letter
    prefix = letters (slice_range bytes start end)

    b : ℕ
    b = get_or bytes end 0

    more : List Letter
    more = letters (slice_range bytes (end + 1) to)

    go : (end ≡ length bytes) ⊎ ((is_white b ≡ true) × (list_any is_lone prefix ≡ false)) → ⊥
    go (inl last) = omega (arith, last, less, within)
    go (inr white) =
        let whole : letters (slice_range bytes start to) ≡ prefix ++ Plain b ∷ more =
        ap letters (slice_split bytes start end to word.order (omega arith))
        ∙ letters_append (slice_range bytes start end) (slice_range bytes end to) white.1
        ∙ ap (λ ls. prefix ++ ls) (ap letters (slice_cons bytes end to less within) ∙ letters_plain b (slice_range bytes (end + 1) to) (ne_eqb b 92 (white_is_no_backslash b white.0))) in
        let broken : IsUnbroken (prefix ++ Plain b ∷ more) = subst IsUnbroken whole unbroken in
        let quoted : in_quotes (take (length prefix) (prefix ++ Plain b ∷ more)) ≡ true = broken (length prefix) (ap is_space (get_or_at prefix (Plain b) more Lone (length prefix) refl) ∙ white.0) in
        true≢false (sym quoted ∙ ap in_quotes (take_at prefix (Plain b ∷ more) (length prefix) refl) ∙ word.closed)

one_end : (bytes : List ℕ) (start d e : ℕ) → IsWord bytes start d → IsWord bytes start e → d ≡ e
one_end bytes start d e a b = go (cases_order d e)
  where
    go : (d ≡ e) ⊎ ((d < e) ⊎ (e < d)) → d ≡ e
    go (inl same) = same
    go (inr (inl less)) = absurd (word_stops bytes start d e a less b.within b.unbroken)
    go (inr (inr more)) = absurd (word_stops bytes start e d b more a.within a.unbroken)

word_is_not_open : (bytes : List ℕ) (start end : ℕ) → IsWord bytes start end → IsOpenWord bytes start → ⊥
word_is_not_open bytes start end word unclosed = go (cases_lt end (length bytes))
  where
    go : (end < length bytes) ⊎ (length bytes ≤ end) → ⊥
    go (inl less) = word_stops bytes start end (length bytes) word less (omega arith) unclosed.unbroken
    go (inr past) =
        let last : end ≡ length bytes = omega (arith, word.within, past) in
        true≢false (sym unclosed.in_open_quotes ∙ sym (ap (λ to. in_quotes (letters (slice_range bytes start to))) last) ∙ word.closed)

-- ---- bodies

body_stops : (bytes : List ℕ) (from end to : ℕ) → IsBody bytes from end → end < to → IsMatched bytes from to → ⊥
body_stops bytes from end to body less matched =
    let closed : cond {A = ℕ} (get_or bytes end 0 == 125) 1 0 ≡ 1 = ap (λ b. cond {A = ℕ} (b == 125) 1 0) body.brace in
    let opened : cond {A = ℕ} (get_or bytes end 0 == 123) 1 0 ≡ 0 = ap (λ b. cond {A = ℕ} (b == 123) 1 0) body.brace in
    omega (arith, matched (end + 1) (omega (arith, body.order)) (omega arith), count_more 125 bytes from end body.order body.within, count_more 123 bytes from end body.order body.within, closed, opened, body.all_closed)

one_body : (bytes : List ℕ) (from d e : ℕ) → IsBody bytes from d → IsBody bytes from e → d ≡ e
one_body bytes from d e a b = go (cases_order d e)
  where
    go : (d ≡ e) ⊎ ((d < e) ⊎ (e < d)) → d ≡ e
    go (inl same) = same
    go (inr (inl less)) = absurd (body_stops bytes from d e a less b.matched)
    go (inr (inr more)) = absurd (body_stops bytes from e d b more a.matched)

-- ---- tokens

same_token : (t u : Token) → t.kind ≡ u.kind → t.text ≡ u.text → t.line ≡ u.line → t.start ≡ u.start → t.end ≡ u.end → t ≡ u
same_token t u kind text line start end =
    ap (λ k. record { kind = k; text = t.text; line = t.line; start = t.start; end = t.end }) kind
    ∙ ap (λ x. record { kind = u.kind; text = x; line = t.line; start = t.start; end = t.end }) text
    ∙ ap (λ l. record { kind = u.kind; text = u.text; line = l; start = t.start; end = t.end }) line
    ∙ ap (λ s. record { kind = u.kind; text = u.text; line = u.line; start = s; end = t.end }) start
    ∙ ap (λ e. record { kind = u.kind; text = u.text; line = u.line; start = u.start; end = e }) end

one_word_token : (bytes : List ℕ) (from : ℕ) (t u : Token) → IsWordToken bytes from t → IsWordToken bytes from u → t ≡ u
one_word_token bytes from t u a b =
    let start : t.start ≡ u.start = one_start bytes from t.start u.start a.begins b.begins in
    let end : t.end ≡ u.end = one_end bytes u.start t.end u.end (subst (λ s. IsWord bytes s t.end) start a.word) b.word in
    let word : slice_range bytes t.start t.end ≡ slice_range bytes u.start u.end = ap (λ s. slice_range bytes s t.end) start ∙ ap (slice_range bytes u.start) end in
    same_token t u (a.has_kind ∙ ap kind_of word ∙ sym b.has_kind) (a.has_text ∙ ap text_of word ∙ sym b.has_text) (a.has_line ∙ ap (line_of bytes) start ∙ sym b.has_line) start end

one_body_token : (bytes : List ℕ) (from : ℕ) (t u : Token) → IsBodyToken bytes from t → IsBodyToken bytes from u → t ≡ u
one_body_token bytes from t u a b =
    let start : t.start ≡ u.start = a.begins ∙ sym b.begins in
    let end : t.end ≡ u.end = one_body bytes u.start t.end u.end (subst (λ s. IsBody bytes s t.end) start a.body) b.body in
    let body : slice_range bytes t.start t.end ≡ slice_range bytes u.start u.end = ap (λ s. slice_range bytes s t.end) start ∙ ap (slice_range bytes u.start) end in
    same_token t u (a.has_kind ∙ sym b.has_kind) (a.has_text ∙ body ∙ sym b.has_text) (a.has_line ∙ ap (line_of bytes) start ∙ sym b.has_line) start end

one_brace_token : (bytes : List ℕ) (from : ℕ) (t u : Token) → IsBraceToken bytes from t → IsBraceToken bytes from u → t ≡ u
one_brace_token bytes from t u a b =
    let start : t.start ≡ u.start = a.begins ∙ sym b.begins in
    same_token t u (a.has_kind ∙ sym b.has_kind) (a.has_text ∙ sym b.has_text) (a.has_line ∙ ap (line_of bytes) start ∙ sym b.has_line) start (a.one_byte ∙ ap (λ s. s + 1) start ∙ sym b.one_byte)

one_next_token : (next : Next) (bytes : List ℕ) (from : ℕ) (t u : Token) → IsNextToken next bytes from t → IsNextToken next bytes from u → t ≡ u
one_next_token NextWord = one_word_token
one_next_token NextBody = one_body_token
one_next_token NextBrace = one_brace_token

-- ---- what stands after the last token

-- no token follows where Last holds
abbrev Stops : List ℕ → (List Token → Type 0) → Type 0
Stops bytes Last = (read : List Token) (t : Token) → Last read → Follows bytes read t → ⊥

end_stops : (bytes : List ℕ) → Stops bytes (IsEnd bytes)
end_stops bytes read t end follows =
    let word : IsWordToken bytes (place_after read) t = subst (λ n. IsNextToken n bytes (place_after read) t) end.outside follows in
    omega (arith, begins_stops bytes (place_after read) t.start (length bytes) word.begins end.gap, word.begins.within)

quote_stops : (bytes : List ℕ) (line : ℕ) → Stops bytes (MeetsOpenQuote bytes line)
quote_stops bytes line read t meets follows =
    let word : IsWordToken bytes (place_after read) t = subst (λ n. IsNextToken n bytes (place_after read) t) meets.outside follows in
    let start : t.start ≡ meets.start = one_start bytes (place_after read) t.start meets.start word.begins meets.begins in
    word_is_not_open bytes meets.start t.end (subst (λ s. IsWord bytes s t.end) start word.word) meets.unclosed

actions_stops : (bytes : List ℕ) (line : ℕ) → Stops bytes (MeetsOpenActions bytes line)
actions_stops bytes line read t meets follows =
    let body : IsBodyToken bytes (place_after read) t = subst (λ n. IsNextToken n bytes (place_after read) t) meets.inside follows in
    body_stops bytes (place_after read) t.end (length bytes) (subst (λ s. IsBody bytes s t.end) body.begins body.body) body.body.within meets.unclosed

-- two readings of one text are one, and meet the same in the end
meet : (bytes : List ℕ) (P Q : List Token → Type 0) → Stops bytes P → Stops bytes Q → (read ts us : List Token) → Stand bytes P read ts → Stand bytes Q read us → (ts ≡ us) × ((final : List Token) × P final × Q final)
meet bytes P Q p q read [] [] a b = (refl, (read, a, b))
meet bytes P Q p q read [] (u ∷ us) a b = absurd (p read u a b.0)
meet bytes P Q p q read (t ∷ ts) [] a b = absurd (q read t b a.0)
meet bytes P Q p q read (t ∷ ts) (u ∷ us) a b =
    let same : t ≡ u = one_next_token (next_after read) bytes (place_after read) t u a.0 b.0 in
    let rest : (ts ≡ us) × ((final : List Token) × P final × Q final) = meet bytes P Q p q (u ∷ read) ts us (subst (λ x. Stand bytes P (x ∷ read) ts) same a.1) b.1 in
    (ap (λ x. x ∷ ts) same ∙ ap (λ xs. u ∷ xs) rest.0, rest.1)

word_is_no_body : NextWord ≡ NextBody → ⊥
word_is_no_body e = cc

pub one_tokens : (bytes : List ℕ) (ts us : List Token) → AreTokens bytes ts → AreTokens bytes us → ts ≡ us
one_tokens bytes ts us a b = (meet bytes (IsEnd bytes) (IsEnd bytes) (end_stops bytes) (end_stops bytes) [] ts us a.1 b.1).0

pub tokens_no_quote : (bytes : List ℕ) (ts : List Token) (line : ℕ) → AreTokens bytes ts → IsOpenQuote bytes line → ⊥
tokens_no_quote bytes ts line a b =
    let met : (ts ≡ b.1.0) × ((final : List Token) × IsEnd bytes final × MeetsOpenQuote bytes line final) = meet bytes (IsEnd bytes) (MeetsOpenQuote bytes line) (end_stops bytes) (quote_stops bytes line) [] ts b.1.0 a.1 b.1.1 in
    let end : IsEnd bytes met.1.0 = met.1.1 in
    let meets : MeetsOpenQuote bytes line met.1.0 = met.1.2 in
    omega (arith, begins_stops bytes (place_after met.1.0) meets.start (length bytes) meets.begins end.gap, meets.begins.within)

pub tokens_no_actions : (bytes : List ℕ) (ts : List Token) (line : ℕ) → AreTokens bytes ts → IsOpenActions bytes line → ⊥
tokens_no_actions bytes ts line a b =
    let met : (ts ≡ b.1.0) × ((final : List Token) × IsEnd bytes final × MeetsOpenActions bytes line final) = meet bytes (IsEnd bytes) (MeetsOpenActions bytes line) (end_stops bytes) (actions_stops bytes line) [] ts b.1.0 a.1 b.1.1 in
    let end : IsEnd bytes met.1.0 = met.1.1 in
    let meets : MeetsOpenActions bytes line met.1.0 = met.1.2 in
    word_is_no_body (sym end.outside ∙ meets.inside)

pub quote_no_actions : (bytes : List ℕ) (line other : ℕ) → IsOpenQuote bytes line → IsOpenActions bytes other → ⊥
quote_no_actions bytes line other a b =
    let met : (a.1.0 ≡ b.1.0) × ((final : List Token) × MeetsOpenQuote bytes line final × MeetsOpenActions bytes other final) = meet bytes (MeetsOpenQuote bytes line) (MeetsOpenActions bytes other) (quote_stops bytes line) (actions_stops bytes other) [] a.1.0 b.1.0 a.1.1 b.1.1 in
    let one : MeetsOpenQuote bytes line met.1.0 = met.1.1 in
    let two : MeetsOpenActions bytes other met.1.0 = met.1.2 in
    word_is_no_body (sym one.outside ∙ two.inside)

pub one_quote : (bytes : List ℕ) (line other : ℕ) → IsOpenQuote bytes line → IsOpenQuote bytes other → line ≡ other
one_quote bytes line other a b =
    let met : (a.1.0 ≡ b.1.0) × ((final : List Token) × MeetsOpenQuote bytes line final × MeetsOpenQuote bytes other final) = meet bytes (MeetsOpenQuote bytes line) (MeetsOpenQuote bytes other) (quote_stops bytes line) (quote_stops bytes other) [] a.1.0 b.1.0 a.1.1 b.1.1 in
    let one : MeetsOpenQuote bytes line met.1.0 = met.1.1 in
    let two : MeetsOpenQuote bytes other met.1.0 = met.1.2 in
    one.on_line ∙ ap (line_of bytes) (one_start bytes (place_after met.1.0) one.start two.start one.begins two.begins) ∙ sym two.on_line

pub one_actions : (bytes : List ℕ) (line other : ℕ) → IsOpenActions bytes line → IsOpenActions bytes other → line ≡ other
one_actions bytes line other a b =
    let met : (a.1.0 ≡ b.1.0) × ((final : List Token) × MeetsOpenActions bytes line final × MeetsOpenActions bytes other final) = meet bytes (MeetsOpenActions bytes line) (MeetsOpenActions bytes other) (actions_stops bytes line) (actions_stops bytes other) [] a.1.0 b.1.0 a.1.1 b.1.1 in
    let one : MeetsOpenActions bytes line met.1.0 = met.1.1 in
    let two : MeetsOpenActions bytes other met.1.0 = met.1.2 in
    one.on_line ∙ sym two.on_line

-- ---- answers

abbrev pub given : List Token → Result (List Token) LexFault
given tokens = Ok tokens

abbrev pub refused : LexFault → Result (List Token) LexFault
refused fault = Err fault

pub one_answer : (bytes : List ℕ) (a b : Result (List Token) LexFault) → IsAnswer bytes a → IsAnswer bytes b → a ≡ b
one_answer bytes (Ok ts) (Ok us) a b = ap given (one_tokens bytes ts us a b)
one_answer bytes (Ok ts) (Err (faults.NotUtf8 at)) a b = absurd (bad_is_no_text bytes at b a.0)
one_answer bytes (Ok ts) (Err (faults.OpenQuote line)) a b = absurd (tokens_no_quote bytes ts line a b)
one_answer bytes (Ok ts) (Err (faults.OpenActions line)) a b = absurd (tokens_no_actions bytes ts line a b)
one_answer bytes (Err (faults.NotUtf8 at)) (Ok us) a b = absurd (bad_is_no_text bytes at a b.0)
one_answer bytes (Err (faults.NotUtf8 at)) (Err (faults.NotUtf8 other)) a b = ap (λ (x : ℕ). refused (faults.NotUtf8 x)) (one_bad bytes at other a b)
one_answer bytes (Err (faults.NotUtf8 at)) (Err (faults.OpenQuote line)) a b = absurd (bad_is_no_text bytes at a b.0)
one_answer bytes (Err (faults.NotUtf8 at)) (Err (faults.OpenActions line)) a b = absurd (bad_is_no_text bytes at a b.0)
one_answer bytes (Err (faults.OpenQuote line)) (Ok us) a b = absurd (tokens_no_quote bytes us line b a)
one_answer bytes (Err (faults.OpenQuote line)) (Err (faults.NotUtf8 at)) a b = absurd (bad_is_no_text bytes at b a.0)
one_answer bytes (Err (faults.OpenQuote line)) (Err (faults.OpenQuote other)) a b = ap (λ (x : ℕ). refused (faults.OpenQuote x)) (one_quote bytes line other a b)
one_answer bytes (Err (faults.OpenQuote line)) (Err (faults.OpenActions other)) a b = absurd (quote_no_actions bytes line other a b)
one_answer bytes (Err (faults.OpenActions line)) (Ok us) a b = absurd (tokens_no_actions bytes us line b a)
one_answer bytes (Err (faults.OpenActions line)) (Err (faults.NotUtf8 at)) a b = absurd (bad_is_no_text bytes at b a.0)
one_answer bytes (Err (faults.OpenActions line)) (Err (faults.OpenQuote other)) a b = absurd (quote_no_actions bytes other line b a)
one_answer bytes (Err (faults.OpenActions line)) (Err (faults.OpenActions other)) a b = ap (λ (x : ℕ). refused (faults.OpenActions x)) (one_actions bytes line other a b)
one_answer bytes (Err faults.OutOfMemory) b x y = absurd x
one_answer bytes a (Err faults.OutOfMemory) x y = absurd y
