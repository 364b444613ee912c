-- White space is ASCII, so where a word begins or ends, a character does too: for the text of a word.
use Rattle.std.proofs.Common.{◌≡◌, ℕ, ◌+◌, ◌-◌, ◌<◌, ◌≤◌, ◌==◌, leb, true, false, ◌⊎◌, inl, inr, suc, List, length, get_or, slice_range, sym, subst, arith}
use Rattle.std.specs.List.{list_any}
use Rattle.std.specs.Int.{is_in_range}
use Rattle.std.specs.Str.{IsUtf8, IsCharBoundary}
use Rattle.std.proofs.lemmas.Bool.{cases_lt, eqb-true, or_cases, and_parts, leb-true}
use Rattle.std.proofs.lemmas.Str.{IsCharBoundary-end, IsCharBoundary-before_ascii, IsCharBoundary-after_ascii}
use Rattle.b2_base.specs.Bytes.{is_white}
use Rattle.jam_lexer.specs.Gap.{IsInComment, BeginsWord}
use Rattle.jam_lexer.specs.Word.{IsWord, letters, is_lone}

-- white space is ASCII
pub white_is_ascii : (b : ℕ) → is_white b ≡ true → b < 128
white_is_ascii b white = go (or_cases (is_in_range 9 13 b) (b == 32) white)
  where
    go : (is_in_range 9 13 b ≡ true) ⊎ ((b == 32) ≡ true) → b < 128
    go (inl low) = let below : b ≤ 13 = leb-true b 13 (and_parts (leb 9 b) (leb b 13) low).1 in omega arith
    go (inr space) = let same : b ≡ 32 = eqb-true b 32 space in omega arith

pub word_end_boundary : (bytes : List ℕ) (start end : ℕ) → IsWord bytes start end → IsCharBoundary bytes end
word_end_boundary bytes start end word = go (cases_lt end (length bytes)) word.ends
  where
    go : (end < length bytes) ⊎ (length bytes ≤ end) → (end ≡ length bytes) ⊎ ((is_white (get_or bytes end 0) ≡ true) × (list_any is_lone (letters (slice_range bytes start end)) ≡ false)) → IsCharBoundary bytes end
    go less (inl last) = subst (IsCharBoundary bytes) (sym last) (IsCharBoundary-end bytes)
    go (inl less) (inr white) = IsCharBoundary-before_ascii bytes end less (white_is_ascii (get_or bytes end 0) white.0)
    go (inr past) (inr white) = let last : length bytes ≡ end = omega (arith, word.within, past) in subst (IsCharBoundary bytes) last (IsCharBoundary-end bytes)

-- the byte before a word that begins after a gap is white space
pub start_boundary : (bytes : List ℕ) (from start : ℕ) → IsUtf8 bytes → IsCharBoundary bytes from → BeginsWord bytes from start → IsCharBoundary bytes start
start_boundary bytes from start utf8 at_from begins = go (cases_lt from start)
  where
    go : (from < start) ⊎ (start ≤ from) → IsCharBoundary bytes start
    go (inr none) = let same : from ≡ start = omega (arith, begins.after, none) in subst (IsCharBoundary bytes) same at_from
    go (inl less) = byte (begins.gap (start - 1) (omega arith) (omega arith))
      where
        next : (start - 1) + 1 ≡ start
        next = omega arith

        byte : (is_white (get_or bytes (start - 1) 0) ≡ true) ⊎ IsInComment bytes from (suc (start - 1)) → IsCharBoundary bytes start
        byte (inl white) = subst (IsCharBoundary bytes) next (IsCharBoundary-after_ascii bytes (start - 1) utf8 (omega (arith, begins.within)) (white_is_ascii (get_or bytes (start - 1) 0) white))
        byte (inr comment) = let same : suc (start - 1) ≡ start = omega arith in absurd (begins.no_comment (subst (IsInComment bytes from) same comment))
