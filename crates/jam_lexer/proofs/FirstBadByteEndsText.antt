-- A zero byte, or the end of what is UTF-8, is the first bad byte; there is only one, and no prefix past it is text.
use Rattle.std.proofs.Common.{◌≡◌, ◌≢◌, ℕ, ◌<◌, ◌≤◌, ◌⊎◌, inl, inr, true, List, [], ◌∷◌, ◌++◌, length, get_or, take, drop, refl, sym, ◌∙◌, ap, subst, arith, encode_utf8}
use lib.Utf8.{scalar, scalars, encodes}
use Rattle.std.specs.Str.{IsUtf8, IsValidUpTo}
use Rattle.b2_base.specs.Bytes.{HasNoZero}
use Rattle.std.proofs.lemmas.Bool.{cases_order, and_parts}
use Rattle.std.proofs.lemmas.List.{take-take, get_or-take, get_or-drop, length-take, length-drop, length-append, length-take-le, take-append-drop, get_or_default, take_at, take_all, append_assoc, drop-append-le}
use Rattle.std.proofs.lemmas.Str.{IsUtf8-take, IsUtf8-drop, IsUtf8-append, IsCharBoundary-from_take, byte_from_char, IsUtf8-encode, IsCharBoundary-before_ascii, char_from_byte, length-encode, len_utf8_bounds}
use Rattle.jam_lexer.specs.Tokens.{IsText}
use Rattle.jam_lexer.specs.Answers.{BeginsNoCharacter, IsFirstBad}

-- no byte of a prefix is zero, where none before its end is
no_zero_before : (bytes : List ℕ) (to : ℕ) → to ≤ length bytes → ((k : ℕ) → k < to → get_or bytes k 0 ≢ 0) → HasNoZero (take to bytes)
no_zero_before bytes to within none k d short =
    let low : k < to = omega (arith, short, length-take to bytes) in
    let some : get_or bytes k 0 ≢ 0 = none k low in
    let least : 0 < get_or bytes k 0 = omega (arith, some) in
    subst (λ b. 0 < b) (sym (get_or-take to bytes k d low ∙ get_or_default bytes k d 0 (omega arith))) least

-- a zero byte begins no character but zero
zero_begins_none : (bytes : List ℕ) (at : ℕ) → at < length bytes → get_or bytes at 0 ≡ 0 → BeginsNoCharacter (drop at bytes)
zero_begins_none bytes at within zero c more scalar some is_c =
    let first : get_or (drop at bytes) 0 0 ≡ 0 = get_or-drop at bytes 0 0 ∙ ap (λ i. get_or bytes i 0) (omega arith) ∙ zero in
    some (char_from_byte (drop at bytes) more c is_c (omega (arith, first)) (omega (arith, length-drop at bytes)) ∙ first)

-- after the longest prefix that is UTF-8 no character begins
none_begins : (bytes : List ℕ) (at : ℕ) → IsValidUpTo bytes at → BeginsNoCharacter (drop at bytes)
none_begins bytes at valid c more scalar some is_c =
    let prefix : List ℕ = take at bytes ++ encode_utf8 c in
    let whole : bytes ≡ prefix ++ more = sym (take-append-drop at bytes) ∙ ap (λ rest. take at bytes ++ rest) is_c ∙ sym (append_assoc (take at bytes) (encode_utf8 c) more) in
    let longer : at < length prefix = omega (arith, length-append (take at bytes) (encode_utf8 c), length-take-le at bytes (omega (arith, valid.short)), length-encode c, len_utf8_bounds c) in
    valid.longest (length prefix) longer
    (subst IsUtf8 (sym (ap (take (length prefix)) whole ∙ take_at prefix more (length prefix) refl)) (IsUtf8-append (take at bytes) (encode_utf8 c) valid.front (IsUtf8-encode c scalar)))

pub zero_is_bad : (bytes : List ℕ) (valid at : ℕ) → IsUtf8 (take valid bytes) → valid ≤ length bytes → at < length (take valid bytes) → get_or (take valid bytes) at 0 ≡ 0 → ((k : ℕ) → k < at → get_or (take valid bytes) k 0 ≢ 0) → IsFirstBad bytes at
zero_is_bad bytes valid at utf8 within low zero none =
    let short : at < valid = omega (arith, low, length-take valid bytes) in
    let is_zero : get_or bytes at 0 ≡ 0 = sym (get_or-take valid bytes at 0 short) ∙ zero in
    record {
      within = omega arith;
      good_before = (
        subst IsUtf8 (take-take at valid bytes (omega arith)) (IsUtf8-take (take valid bytes) at utf8 (IsCharBoundary-before_ascii (take valid bytes) at low (omega (arith, zero)))),
        no_zero_before bytes at (omega arith) (λ k less. subst (λ b. b ≢ 0) (get_or-take valid bytes k 0 (omega arith)) (none k less)),
      );
      bad = zero_begins_none bytes at (omega arith) is_zero;
    }

pub invalid_is_bad : (bytes : List ℕ) (valid : ℕ) → IsValidUpTo bytes valid → HasNoZero (take valid bytes) → IsFirstBad bytes valid
invalid_is_bad bytes valid up_to no_zero = record { within = up_to.short; good_before = (up_to.front, no_zero); bad = none_begins bytes valid up_to }

-- no prefix is text past the first byte that is none
pub bad_stops : (bytes : List ℕ) (at to : ℕ) → IsFirstBad bytes at → at < to → to ≤ length bytes → IsText (take to bytes) → ⊥
bad_stops bytes at to bad less within text = go (IsUtf8-drop prefix at text.0 (IsCharBoundary-from_take prefix at text.0 (omega (arith, size)) (subst IsUtf8 (sym (take-take at to bytes (omega arith))) bad.good_before.0)))
  where
    prefix : List ℕ
    prefix = take to bytes

    size : length prefix ≡ to
    size = length-take-le to bytes within

    split : drop at bytes ≡ drop at prefix ++ drop to bytes
    split = ap (drop at) (sym (take-append-drop to bytes)) ∙ drop-append-le at prefix (drop to bytes) (omega (arith, size))

    some : (c : ℕ) (more : List ℕ) → drop at bytes ≡ encode_utf8 c ++ more → c ≢ 0
    some c more begins zero =
        let byte : get_or (drop at bytes) 0 0 ≡ c = byte_from_char (drop at bytes) more c begins (omega (arith, zero)) in
        let same : get_or (drop at bytes) 0 0 ≡ get_or bytes at 0 = get_or-drop at bytes 0 0 ∙ ap (λ i. get_or bytes i 0) (omega arith) in
        omega (arith, byte, same, zero, get_or-take to bytes at 0 less, text.1 at 0 (omega (arith, size)))

    go : IsUtf8 (drop at prefix) → ⊥
    go (cs, (scalars_are, spelled)) = first cs scalars_are spelled
      where
        first : (cs : List ℕ) → scalars cs ≡ true → encodes cs ≡ drop at prefix → ⊥
        first [] ok spelled = omega (arith, ap length spelled, length-drop at prefix, size)
        first (c ∷ cs) ok spelled =
            let begins : drop at bytes ≡ encode_utf8 c ++ (encodes cs ++ drop to bytes) = split ∙ ap (λ x. x ++ drop to bytes) (sym spelled) ∙ append_assoc (encode_utf8 c) (encodes cs) (drop to bytes) in
            bad.bad c (encodes cs ++ drop to bytes) (and_parts (scalar c) (scalars cs) ok).0 (some c (encodes cs ++ drop to bytes) begins) begins

pub one_bad : (bytes : List ℕ) (at other : ℕ) → IsFirstBad bytes at → IsFirstBad bytes other → at ≡ other
one_bad bytes at other a b = go (cases_order at other)
  where
    go : (at ≡ other) ⊎ ((at < other) ⊎ (other < at)) → at ≡ other
    go (inl same) = same
    go (inr (inl less)) = absurd (bad_stops bytes at other a less (omega (arith, b.within)) b.good_before)
    go (inr (inr more)) = absurd (bad_stops bytes other at b more (omega (arith, a.within)) a.good_before)

pub bad_is_no_text : (bytes : List ℕ) (at : ℕ) → IsFirstBad bytes at → IsText bytes → ⊥
bad_is_no_text bytes at bad text = bad_stops bytes at (length bytes) bad bad.within (omega arith) (subst IsText (sym (take_all (length bytes) bytes (omega arith))) text)
