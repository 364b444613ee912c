-- All bytes have an answer.
use Rattle.std.proofs.Common.{◌≡◌, ◌≢◌, ℕ, zero, suc, ◌+◌, ◌-◌, ◌<◌, ◌≤◌, Bool, true, false, not, ◌&&◌, ◌||◌, ◌⊎◌, inl, inr, min, List, [], ◌∷◌, ◌++◌, length, get_or, take, codes, refl, sym, ◌∙◌, subst, arith, below_more, Result, Ok, Err}
use Rattle.std.specs.Str.{IsUtf8, is_utf8}
use Rattle.std.proofs.lemmas.Bool.{cases_lt, cases_eq, cases_Bool, true≢false}
use Rattle.std.proofs.lemmas.List.{take_all, get_or_default}
use Rattle.std.proofs.lemmas.Str.{IsUtf8-nil, IsUtf8-from_is_utf8, is_utf8-from_IsUtf8}
use Rattle.b2_base.specs.Bytes.{HasNoZero, is_white}
use Rattle.b2_base.specs.declared.token.Token.{Token}
use Rattle.jam_lexer.specs.declared.fault.LexFault.{LexFault}
use Rattle.jam_lexer.specs.declared.fault.LexFault.TheVariants as faults
use Rattle.jam_lexer.specs.declared.reading.LexPlace.{LexPlace}
use Rattle.jam_lexer.specs.Signs.{line_of}
use Rattle.jam_lexer.specs.Gap.{IsGap, IsInComment, BeginsWord}
use Rattle.jam_lexer.specs.Word.{IsWord, IsOpenWord}
use Rattle.jam_lexer.specs.Body.{IsMatched, IsBody}
use Rattle.jam_lexer.specs.Tokens.{NextWord, is_the_key, IsText}
use Rattle.jam_lexer.specs.Answers.{IsFirstBad, IsAnswer}
use Rattle.jam_lexer.specs.Progress.{HasRead, HasOpened}
use Rattle.jam_lexer.proofs.SpaceAndCommentsAreGaps.{gap_of_nothing, comment_of_nothing, gap_white, comment_white, gap_comment, comment_line_feed, gap_line}
use Rattle.jam_lexer.proofs.WordsGrowLetterByLetter.{IsReading, reading_start, reading_plain, reading_quote, reading_literal, word_before_white, word_before_end, open_word}
use Rattle.jam_lexer.proofs.DepthCountsOpenBraces.{IsAtDepth, depth_start, depth_open, depth_close, depth_other, body_here}
use Rattle.jam_lexer.proofs.FirstBadByteEndsText.{zero_is_bad, invalid_is_bad}
use Rattle.jam_lexer.proofs.ReadingGoesTokenByToken.{the_word, word_read, word_opens, word_goes, body_read, nothing_read, all_read, meets_open_quote, meets_open_actions}

-- In what follows `fuel` is at least the number of bytes that are left.

-- ---- the end of a comment

record EndsComment (bytes : List ℕ) (hash end : ℕ) : Type 0 where
  past : hash < end
  within : end ≤ length bytes
  one_line : (k : ℕ) → hash < k → k < end → get_or bytes k 0 ≢ 10
  ends : (end ≡ length bytes) ⊎ (get_or bytes end 0 ≡ 10)

one_more : (bytes : List ℕ) (hash at : ℕ) → ((k : ℕ) → hash < k → k < at → get_or bytes k 0 ≢ 10) → get_or bytes at 0 ≢ 10 → (k : ℕ) → hash < k → k < at + 1 → get_or bytes k 0 ≢ 10
one_more bytes hash at before last k low high = go (cases_lt k at)
  where
    go : (k < at) ⊎ (at ≤ k) → get_or bytes k 0 ≢ 10
    go (inl less) = before k low less
    go (inr more) = let same : at ≡ k = omega arith in subst (λ i. get_or bytes i 0 ≢ 10) same last

find_feed : (fuel : ℕ) (bytes : List ℕ) (hash at : ℕ) → length bytes ≤ at + fuel → hash < at → at ≤ length bytes → ((k : ℕ) → hash < k → k < at → get_or bytes k 0 ≢ 10) → (end : ℕ) × EndsComment bytes hash end
find_feed zero bytes hash at enough past within one_line = (at, record { past = past; within = within; one_line = one_line; ends = inl (omega arith) })
find_feed (suc fuel) bytes hash at enough past within one_line = go (cases_lt at (length bytes)) (cases_eq (get_or bytes at 0) 10) (find_feed fuel bytes hash (at + 1))
  where
    go : (at < length bytes) ⊎ (length bytes ≤ at) → (get_or bytes at 0 ≡ 10) ⊎ (get_or bytes at 0 ≡ 10 → ⊥) → (length bytes ≤ at + 1 + fuel → hash < at + 1 → at + 1 ≤ length bytes → ((k : ℕ) → hash < k → k < at + 1 → get_or bytes k 0 ≢ 10) → (end : ℕ) × EndsComment bytes hash end) → (end : ℕ) × EndsComment bytes hash end
    go (inr end) feed rest = (at, record { past = past; within = within; one_line = one_line; ends = inl (omega arith) })
    go (inl less) (inl feed) rest = (at, record { past = past; within = within; one_line = one_line; ends = inr feed })
    go (inl less) (inr other) rest = rest (omega arith) (omega arith) (omega arith) (one_more bytes hash at one_line other)

-- ---- the next word

abbrev WordOrEnd : List ℕ → ℕ → Type 0
WordOrEnd bytes from = ((start : ℕ) × BeginsWord bytes from start) ⊎ IsGap bytes from (length bytes)

find_word : (fuel : ℕ) (bytes : List ℕ) (from at : ℕ) → length bytes ≤ at + fuel → from ≤ at → at ≤ length bytes → IsGap bytes from at → (IsInComment bytes from at → ⊥) → WordOrEnd bytes from
find_word zero bytes from at enough order within gap outside = let end : at ≡ length bytes = omega arith in inr (subst (IsGap bytes from) end gap)
find_word (suc fuel) bytes from at enough order within gap outside = go (cases_lt at (length bytes)) (cases_eq (get_or bytes at 0) 35) (cases_Bool (is_white (get_or bytes at 0))) (find_word fuel bytes from)
  where
    go : (at < length bytes) ⊎ (length bytes ≤ at) → (get_or bytes at 0 ≡ 35) ⊎ (get_or bytes at 0 ≡ 35 → ⊥) → (is_white (get_or bytes at 0) ≡ true) ⊎ (is_white (get_or bytes at 0) ≡ false) → ((to : ℕ) → length bytes ≤ to + fuel → from ≤ to → to ≤ length bytes → IsGap bytes from to → (IsInComment bytes from to → ⊥) → WordOrEnd bytes from) → WordOrEnd bytes from
    go (inr past) hash white rest = let end : at ≡ length bytes = omega arith in inr (subst (IsGap bytes from) end gap)
    go (inl less) (inl hash) white rest = comment (find_feed fuel bytes at (at + 1) (omega arith) (omega arith) (omega arith) (λ k low high. let never : ⊥ = omega (arith, low, high) in absurd never))
      where
        comment : (end : ℕ) × EndsComment bytes at end → WordOrEnd bytes from
        comment (end, is_end) = last is_end.ends (cases_lt end (length bytes))
          where
            last : (end ≡ length bytes) ⊎ (get_or bytes end 0 ≡ 10) → (end < length bytes) ⊎ (length bytes ≤ end) → WordOrEnd bytes from
            last (inl done) short = inr (subst (IsGap bytes from) done (gap_comment bytes from at end order gap hash is_end.one_line))
            last (inr feed) (inr past) = let done : end ≡ length bytes = omega (arith, past, is_end.within) in inr (subst (IsGap bytes from) done (gap_comment bytes from at end order gap hash is_end.one_line))
            last (inr feed) (inl short) = rest (end + 1) (omega (arith, is_end.past)) (omega (arith, is_end.past)) (omega arith) (gap_line bytes from at end order gap hash is_end.one_line feed) (comment_line_feed bytes from end feed)
    go (inl less) (inr other) (inl white) rest = rest (at + 1) (omega arith) (omega arith) (omega arith) (gap_white bytes from at gap white) (comment_white bytes from at outside white)
    go (inl less) (inr other) (inr dark) rest = inl (at, record { after = order; within = less; gap = gap; no_comment = outside; no_white = dark; no_hash = other })

-- ---- the end of a word

abbrev EndOrOpen : List ℕ → ℕ → Type 0
EndOrOpen bytes start = ((end : ℕ) × IsWord bytes start end) ⊎ IsOpenWord bytes start

at_end : (bytes : List ℕ) (start at : ℕ) (quoted : Bool) → IsReading bytes start at quoted → at ≡ length bytes → EndOrOpen bytes start
at_end bytes start at true r end = inr (open_word bytes start at true r end refl)
at_end bytes start at false r end = inl (at, word_before_end bytes start at false r end refl)

find_end : (fuel : ℕ) (bytes : List ℕ) (start at : ℕ) (quoted : Bool) → length bytes ≤ at + fuel → IsReading bytes start at quoted → EndOrOpen bytes start
find_end zero bytes start at quoted enough r = at_end bytes start at quoted r (omega (arith, r.within))
find_end (suc fuel) bytes start at quoted enough r = go (cases_lt at (length bytes)) (cases_eq (get_or bytes at 0) 92) (cases_eq (get_or bytes at 0) 34) (cases_Bool (is_white (get_or bytes at 0))) (cases_Bool quoted) (find_end fuel bytes start)
  where
    go : (at < length bytes) ⊎ (length bytes ≤ at) → (get_or bytes at 0 ≡ 92) ⊎ (get_or bytes at 0 ≡ 92 → ⊥) → (get_or bytes at 0 ≡ 34) ⊎ (get_or bytes at 0 ≡ 34 → ⊥) → (is_white (get_or bytes at 0) ≡ true) ⊎ (is_white (get_or bytes at 0) ≡ false) → (quoted ≡ true) ⊎ (quoted ≡ false) → ((to : ℕ) (now : Bool) → length bytes ≤ to + fuel → IsReading bytes start to now → EndOrOpen bytes start) → EndOrOpen bytes start
    go (inr past) slash quote white in_quotes rest = at_end bytes start at quoted r (omega (arith, r.within))
    go (inl less) (inl slash) quote white in_quotes rest = rest (min (at + 2) (length bytes)) quoted (omega arith) (reading_literal bytes start at quoted r less slash)
    go (inl less) (inr plain) (inl quote) white in_quotes rest = rest (at + 1) (not quoted) (omega arith) (reading_quote bytes start at quoted r less quote)
    go (inl less) (inr plain) (inr bare) (inl white) (inr closed) rest = inl (at, word_before_white bytes start at quoted r less closed white)
    go (inl less) (inr plain) (inr bare) (inl white) (inl is_open) rest = rest (at + 1) quoted (omega arith) (reading_plain bytes start at quoted r less plain bare (λ _. is_open))
    go (inl less) (inr plain) (inr bare) (inr dark) in_quotes rest = rest (at + 1) quoted (omega arith) (reading_plain bytes start at quoted r less plain bare (λ white. absurd (true≢false (sym white ∙ dark))))

-- ---- the end of a body

abbrev BodyOrOpen : List ℕ → ℕ → Type 0
BodyOrOpen bytes from = ((end : ℕ) × IsBody bytes from end) ⊎ IsMatched bytes from (length bytes)

find_body : (fuel : ℕ) (bytes : List ℕ) (from at depth : ℕ) → length bytes ≤ at + fuel → IsAtDepth bytes from at depth → BodyOrOpen bytes from
find_body zero bytes from at depth enough r = let end : at ≡ length bytes = omega (arith, r.within) in inr (subst (IsMatched bytes from) end r.matched)
find_body (suc fuel) bytes from at depth enough r = go (cases_lt at (length bytes)) (cases_eq (get_or bytes at 0) 123) (cases_eq (get_or bytes at 0) 125) (cases_eq depth 0) (find_body fuel bytes from (at + 1))
  where
    go : (at < length bytes) ⊎ (length bytes ≤ at) → (get_or bytes at 0 ≡ 123) ⊎ (get_or bytes at 0 ≡ 123 → ⊥) → (get_or bytes at 0 ≡ 125) ⊎ (get_or bytes at 0 ≡ 125 → ⊥) → (depth ≡ 0) ⊎ (depth ≡ 0 → ⊥) → ((now : ℕ) → length bytes ≤ at + 1 + fuel → IsAtDepth bytes from (at + 1) now → BodyOrOpen bytes from) → BodyOrOpen bytes from
    go (inr past) left right none rest = let end : at ≡ length bytes = omega (arith, r.within) in inr (subst (IsMatched bytes from) end r.matched)
    go (inl less) (inl left) right none rest = rest (depth + 1) (omega arith) (depth_open bytes from at depth r less left)
    go (inl less) (inr other) (inl right) (inl none) rest = inl (at, body_here bytes from at depth r less right none)
    go (inl less) (inr other) (inl right) (inr some) rest = rest (depth - 1) (omega arith) (depth_close bytes from at depth r less right some)
    go (inl less) (inr other) (inr plain) none rest = rest depth (omega arith) (depth_other bytes from at depth r less other plain)

-- ---- which bytes are text

record IsLongest (bytes : List ℕ) (most prefix : ℕ) : Type 0 where
  within : prefix ≤ most
  valid : IsUtf8 (take prefix bytes)
  longest : (n : ℕ) → prefix < n → n ≤ most → IsUtf8 (take n bytes) → ⊥

find_longest : (bytes : List ℕ) (most : ℕ) → (prefix : ℕ) × IsLongest bytes most prefix
find_longest bytes zero = (0, record { within = omega arith; valid = IsUtf8-nil; longest = λ n low high. let never : ⊥ = omega (arith, low, high) in absurd never })
find_longest bytes (suc most) = go (is_utf8 (take (suc most) bytes)) refl (find_longest bytes most)
  where
    go : (t : Bool) → is_utf8 (take (suc most) bytes) ≡ t → (prefix : ℕ) × IsLongest bytes most prefix → (prefix : ℕ) × IsLongest bytes (suc most) prefix
    go true e rest = (suc most, record { within = omega arith; valid = IsUtf8-from_is_utf8 (take (suc most) bytes) e; longest = λ n low high. let never : ⊥ = omega (arith, low, high) in absurd never })
    go false e (prefix, is) = (prefix, record { within = omega (arith, is.within); valid = is.valid; longest = longer })
      where
        longer : (n : ℕ) → prefix < n → n ≤ suc most → IsUtf8 (take n bytes) → ⊥
        longer n low high valid = at (cases_lt n (suc most))
          where
            at : (n < suc most) ⊎ (suc most ≤ n) → ⊥
            at (inl less) = is.longest n low (omega arith) valid
            at (inr more) = let same : n ≡ suc most = omega arith in true≢false (sym (is_utf8-from_IsUtf8 (take (suc most) bytes) (subst (λ k. IsUtf8 (take k bytes)) same valid)) ∙ e)

record IsFirstZero (bytes : List ℕ) (at : ℕ) : Type 0 where
  within : at < length bytes
  zero_there : get_or bytes at 0 ≡ 0
  none_before : (k : ℕ) → k < at → get_or bytes k 0 ≢ 0

no_zero_in : (bytes : List ℕ) (at : ℕ) → length bytes ≤ at → ((k : ℕ) → k < at → get_or bytes k 0 ≢ 0) → HasNoZero bytes
no_zero_in bytes at past before k d low =
    let some : get_or bytes k 0 ≢ 0 = before k (omega arith) in
    let least : 0 < get_or bytes k 0 = omega (arith, some) in
    subst (λ b. 0 < b) (get_or_default bytes k 0 d low) least

find_zero : (fuel : ℕ) (bytes : List ℕ) (at : ℕ) → length bytes ≤ at + fuel → ((k : ℕ) → k < at → get_or bytes k 0 ≢ 0) → ((zero_at : ℕ) × IsFirstZero bytes zero_at) ⊎ HasNoZero bytes
find_zero zero bytes at enough before = inr (no_zero_in bytes at (omega arith) before)
find_zero (suc fuel) bytes at enough before = go (cases_lt at (length bytes)) (cases_eq (get_or bytes at 0) 0) (find_zero fuel bytes (at + 1))
  where
    go : (at < length bytes) ⊎ (length bytes ≤ at) → (get_or bytes at 0 ≡ 0) ⊎ (get_or bytes at 0 ≡ 0 → ⊥) → (length bytes ≤ at + 1 + fuel → ((k : ℕ) → k < at + 1 → get_or bytes k 0 ≢ 0) → ((zero_at : ℕ) × IsFirstZero bytes zero_at) ⊎ HasNoZero bytes) → ((zero_at : ℕ) × IsFirstZero bytes zero_at) ⊎ HasNoZero bytes
    go (inr past) none rest = inr (no_zero_in bytes at past before)
    go (inl less) (inl none) rest = inl (at, record { within = less; zero_there = none; none_before = before })
    go (inl less) (inr some) rest = rest (omega arith) (below_more (λ k. get_or bytes k 0 ≢ 0) at before some)

abbrev TextOrBad : List ℕ → Type 0
TextOrBad bytes = IsText bytes ⊎ ((at : ℕ) × IsFirstBad bytes at)

find_bad : (bytes : List ℕ) → TextOrBad bytes
find_bad bytes = go (find_longest bytes (length bytes))
  where
    go : (prefix : ℕ) × IsLongest bytes (length bytes) prefix → TextOrBad bytes
    go (prefix, is) = zero_or (find_zero (length (take prefix bytes)) (take prefix bytes) 0 (omega arith) (λ k low. let never : ⊥ = omega (arith, low) in absurd never)) (cases_lt prefix (length bytes))
      where
        zero_or : ((at : ℕ) × IsFirstZero (take prefix bytes) at) ⊎ HasNoZero (take prefix bytes) → (prefix < length bytes) ⊎ (length bytes ≤ prefix) → TextOrBad bytes
        zero_or (inl (at, zero_is)) short = inr (at, zero_is_bad bytes prefix at is.valid is.within zero_is.within zero_is.zero_there zero_is.none_before)
        zero_or (inr no_zero) (inl short) = inr (prefix, invalid_is_bad bytes prefix (record { short = short; front = is.valid; longest = longest }) no_zero)
          where
            longest : (n : ℕ) → prefix < n → IsUtf8 (take n bytes) → ⊥
            longest n low valid = at (cases_lt (length bytes) n)
              where
                at : (length bytes < n) ⊎ (n ≤ length bytes) → ⊥
                at (inr high) = is.longest n low high valid
                at (inl past) = is.longest (length bytes) short (omega arith) (subst IsUtf8 (take_all n bytes (omega arith) ∙ sym (take_all (length bytes) bytes (omega arith))) valid)
        zero_or (inr no_zero) (inr whole) = inl (subst IsText (take_all prefix bytes whole) (is.valid, no_zero))

-- ---- the answer

abbrev Answered : List ℕ → Type 0
Answered bytes = (answer : Result (List Token) LexFault) × IsAnswer bytes answer

find_answer : (fuel : ℕ) (bytes : List ℕ) (tokens : List Token) (place : LexPlace) → IsText bytes → length bytes ≤ place.at + fuel → HasRead bytes NextWord tokens place → Answered bytes
find_answer zero bytes tokens place text enough has = let end : length bytes ≡ place.at = omega (arith, has.within) in (Ok tokens, (text, all_read bytes tokens place has (subst (λ to. IsGap bytes place.at to) (sym end) (gap_of_nothing bytes place.at))))
find_answer (suc fuel) bytes tokens place text enough has = word (find_word (length bytes) bytes place.at place.at (omega arith) (omega arith) has.within (gap_of_nothing bytes place.at) (comment_of_nothing bytes place.at)) (find_answer fuel bytes)
  where
    word : WordOrEnd bytes place.at → ((more : List Token) (to : LexPlace) → IsText bytes → length bytes ≤ to.at + fuel → HasRead bytes NextWord more to → Answered bytes) → Answered bytes
    word (inr gap) rest = (Ok tokens, (text, all_read bytes tokens place has gap))
    word (inl (start, begins)) rest = after (find_end (length bytes) bytes start start false (omega arith) (reading_start bytes start (omega (arith, begins.within))))
      where
        line : ℕ
        line = line_of bytes start

        after : EndOrOpen bytes start → Answered bytes
        after (inr unclosed) = (Err (faults.OpenQuote line), (text, (tokens, meets_open_quote bytes tokens place start line has begins unclosed refl)))
        after (inl (end, is_word)) = body (is_the_key (codes "{") (the_word bytes start end line) && place.awaits) refl
          where
            goes : start < end
            goes = word_goes bytes place.at start end begins is_word

            body : (opens : Bool) → opens ≡ (is_the_key (codes "{") (the_word bytes start end line) && place.awaits) → Answered bytes
            body false e = rest _ _ text (omega (arith, begins.after, goes)) (word_read bytes tokens place start end line (line_of bytes end) false has begins is_word refl refl e)
            body true e = closes (word_opens bytes tokens place start end line (line_of bytes end) has begins is_word refl refl e) (find_body (length bytes) bytes end end 0 (omega arith) (depth_start bytes end is_word.within))
              where
                closes : HasOpened bytes (tokens ++ the_word bytes start end line ∷ []) (record { at = end; line = line_of bytes end; awaits = is_the_key (codes "actions") (the_word bytes start end line) || (not (is_the_key (codes "{") (the_word bytes start end line)) && place.awaits) }) line → BodyOrOpen bytes end → Answered bytes
                closes opened (inr matched) = (Err (faults.OpenActions line), (text, (tokens ++ the_word bytes start end line ∷ [], meets_open_actions bytes _ _ line opened matched)))
                closes opened (inl (close, is_body)) = rest _ _ text (omega (arith, begins.after, goes, is_body.order)) (body_read bytes _ _ close (line_of bytes close) text.0 opened.has_read is_body refl)

pub some_answer : (bytes : List ℕ) → (answer : Result (List Token) LexFault) × IsAnswer bytes answer
some_answer bytes = go (find_bad bytes)
  where
    go : TextOrBad bytes → (answer : Result (List Token) LexFault) × IsAnswer bytes answer
    go (inr (at, bad)) = (Err (faults.NotUtf8 at), bad)
    go (inl text) = find_answer (length bytes) bytes [] (record { at = 0; line = 1; awaits = false }) text (omega arith) (nothing_read bytes text.0)
