-- A gap goes on over white space, over a comment and over the line feed at its end: for the loop that skips gaps.
use Rattle.std.proofs.Common.{◌≡◌, ◌≢◌, ℕ, suc, ◌+◌, ◌<◌, ◌≤◌, true, ◌⊎◌, inl, inr, List, get_or, arith, subst, sym, ◌∙◌, ap}
use Rattle.std.proofs.lemmas.Bool.{cases_lt, true≢false}
use Rattle.b2_base.specs.Bytes.{is_white}
use Rattle.jam_lexer.specs.Gap.{IsGap, IsInComment}

-- nothing is a gap
pub gap_of_nothing : (bytes : List ℕ) (from : ℕ) → IsGap bytes from from
gap_of_nothing bytes from k low high = let none : ⊥ = omega (arith, low, high) in absurd none

pub comment_of_nothing : (bytes : List ℕ) (from : ℕ) → IsInComment bytes from from → ⊥
comment_of_nothing bytes from c = omega (arith, c.after, c.before)

white_is_no_hash : (b : ℕ) → is_white b ≡ true → b ≢ 35
white_is_no_hash b white e = true≢false (sym white ∙ ap is_white e)

-- white space goes on with a gap
pub gap_white : (bytes : List ℕ) (from at : ℕ) → IsGap bytes from at → is_white (get_or bytes at 0) ≡ true → IsGap bytes from (at + 1)
gap_white bytes from at gap white k low high = go (cases_lt k at)
  where
    go : (k < at) ⊎ (at ≤ k) → (is_white (get_or bytes k 0) ≡ true) ⊎ IsInComment bytes from (suc k)
    go (inl less) = gap k low less
    go (inr more) = let same : at ≡ k = omega arith in inl (subst (λ i. is_white (get_or bytes i 0) ≡ true) same white)

-- white space is in no comment, where the byte before it is in none
pub comment_white : (bytes : List ℕ) (from at : ℕ) → (IsInComment bytes from at → ⊥) → is_white (get_or bytes at 0) ≡ true → IsInComment bytes from (at + 1) → ⊥
comment_white bytes from at outside white c = go (cases_lt c.sign at)
  where
    go : (c.sign < at) ⊎ (at ≤ c.sign) → ⊥
    go (inl less) = outside (record { sign = c.sign; after = c.after; before = less; is_hash = c.is_hash; one_line = λ k low high. c.one_line k low (omega arith) })
    go (inr more) =
        let high : c.sign < at + 1 = c.before in
        let same : c.sign ≡ at = omega arith in
        white_is_no_hash (get_or bytes at 0) white (subst (λ i. get_or bytes i 0 ≡ 35) same c.is_hash)

-- a comment goes on with a gap
pub gap_comment : (bytes : List ℕ) (from at end : ℕ) → from ≤ at → IsGap bytes from at → get_or bytes at 0 ≡ 35 → ((k : ℕ) → at < k → k < end → get_or bytes k 0 ≢ 10) → IsGap bytes from end
gap_comment bytes from at end order gap is_hash one_line k low high = go (cases_lt k at)
  where
    go : (k < at) ⊎ (at ≤ k) → (is_white (get_or bytes k 0) ≡ true) ⊎ IsInComment bytes from (suc k)
    go (inl less) = gap k low less
    go (inr more) = inr (record { sign = at; after = order; before = omega arith; is_hash = is_hash; one_line = λ i low' high'. one_line i low' (omega arith) })

-- a line feed ends each comment
pub comment_line_feed : (bytes : List ℕ) (from end : ℕ) → get_or bytes end 0 ≡ 10 → IsInComment bytes from (end + 1) → ⊥
comment_line_feed bytes from end feed c = go (cases_lt c.sign end)
  where
    go : (c.sign < end) ⊎ (end ≤ c.sign) → ⊥
    go (inl less) = c.one_line end less (omega arith) feed
    go (inr more) =
        let high : c.sign < end + 1 = c.before in
        let same : c.sign ≡ end = omega arith in
        let hash : get_or bytes end 0 ≡ 35 = subst (λ i. get_or bytes i 0 ≡ 35) same c.is_hash in
        omega (arith, hash, feed)

-- with the line feed at its end a comment goes on with a gap
pub gap_line : (bytes : List ℕ) (from at end : ℕ) → from ≤ at → IsGap bytes from at → get_or bytes at 0 ≡ 35 → ((k : ℕ) → at < k → k < end → get_or bytes k 0 ≢ 10) → get_or bytes end 0 ≡ 10 → IsGap bytes from (end + 1)
gap_line bytes from at end order gap is_hash one_line feed = gap_white bytes from end (gap_comment bytes from at end order gap is_hash one_line) (ap is_white feed)
