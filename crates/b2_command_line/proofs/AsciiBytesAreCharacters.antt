-- In text each byte up to the first one from 128 on is a character by itself; for the letters of groups as clap reads.
use Rattle.std.proofs.Common.{◌≡◌, ℕ, ◌+◌, ◌/◌, ◌%◌, ◌<◌, ◌≤◌, Bool, true, false, cond, nat_lt, ◌&&◌, List, [], ◌∷◌, ◌++◌, All, Some, refl, sym, ap, ◌∙◌, subst, inl, inr, ◌⊎◌, arith, slice_get, IsUtf8, true≢false}
use Rattle.std.proofs.lemmas.Bool.{cases_lt}
use Rattle.std.proofs.lemmas.Bool.Decides.{nat_tests}
use Rattle.std.proofs.lemmas.List.Elements.{All-head, All-tail}
use Rattle.std.proofs.lemmas.Str.{encode_ascii, is_utf8-from_IsUtf8}
use Rattle.std.proofs.lemmas.Slice.Eq.{bytes_eq-Decides}
use Rattle.std.specs.Str.{chars, all_scalars, encode_utf8_all, is_utf8, bytes_eq}
use Rattle.std.specs.Char.{encode_utf8}
use lib.Utf8.{scalar}
use Rattle.clap.specs.Words.{Text}
use Rattle.b2_base.specs.Bytes.{HasNoZero}
use Rattle.b2_command_line.proofs.ClapAgreesOnGroups.{IsClean}
use Rattle.b2_command_line.proofs.ClapAgreesOnAllWords.{CleanWords}

both_true : (a b : Bool) → (a && b) ≡ true → (a ≡ true) × (b ≡ true)
both_true true b e = (refl, e)
both_true false b e = absurd (true≢false (sym e))

-- a character from 128 on begins with such a byte
high_byte : (x : ℕ) → 128 ≤ x → (y : ℕ) × (ys : Text) × (encode_utf8 x ≡ y ∷ ys) × (128 ≤ y)
unfolding encode_utf8
high_byte x high = by (nat_lt x 128) (nat_lt x 2048) (nat_lt x 65536) (grind (arith, nat_tests))
  where
    by : (a b c : Bool) → a ≡ false → (y : ℕ) × (ys : Text)
        × (cond a (x ∷ []) (cond b ((192 + x / 64) ∷ (128 + x % 64) ∷ []) (cond c ((224 + x / 4096) ∷ (128 + x / 64 % 64) ∷ (128 + x % 64) ∷ [])
        ((240 + x / 262144) ∷ (128 + x / 4096 % 64) ∷ (128 + x / 64 % 64) ∷ (128 + x % 64) ∷ []))) ≡ y ∷ ys) × (128 ≤ y)
    by true b c e = absurd (true≢false e)
    by false true c e = (192 + x / 64, (128 + x % 64) ∷ [], refl, omega arith)
    by false false true e = (224 + x / 4096, (128 + x / 64 % 64) ∷ (128 + x % 64) ∷ [], refl, omega arith)
    by false false false e = (240 + x / 262144, (128 + x / 4096 % 64) ∷ (128 + x / 64 % 64) ∷ (128 + x % 64) ∷ [], refl, omega arith)

-- what the first character says of the first byte
record Begins (cs : List ℕ) (b : ℕ) (rest : Text) : Type 0 where
  first : ℕ
  is : slice_get cs 0 ≡ Some first
  either : (first ≡ b) ⊎ ((128 ≤ first) × (128 ≤ b))
  after : b < 128 → IsUtf8 rest

begins : (cs : List ℕ) (b : ℕ) (rest : Text) → all_scalars cs ≡ true → encode_utf8_all cs ≡ b ∷ rest → Begins cs b rest
begins [] b rest s e = absurd cc
begins (x ∷ xs) b rest s e = elim (cases_lt x 128) [
  | inl low ↦
      let whole : x ∷ encode_utf8_all xs ≡ b ∷ rest = ap (λ (t : Text). t ++ encode_utf8_all xs) (sym (encode_ascii x low)) ∙ e in
      let same : x ≡ b = cc in
      let tail : encode_utf8_all xs ≡ rest = cc in
      record { first = x; is = refl; either = inl same; after = λ _. (xs, ((both_true (scalar x) (all_scalars xs) s).1, tail)) }
  | inr high ↦
      let h = high_byte x high in
      let whole : h.0 ∷ (h.1 ++ encode_utf8_all xs) ≡ b ∷ rest = ap (λ (t : Text). t ++ encode_utf8_all xs) (sym h.2) ∙ e in
      let same : h.0 ≡ b = cc in
      let big : 128 ≤ b = omega (arith, h.3, same) in
      record { first = x; is = refl; either = inr (high, big); after = λ small. absurd (omega (arith, big, small)) }
]

pub clean : (bs : Text) → IsUtf8 bs → IsClean bs
unfolding is_utf8
clean [] u = tt
clean (b ∷ rest) u =
    let test = is_utf8-from_IsUtf8 (b ∷ rest) u in
    let cs = chars (b ∷ rest) in
    let spelled : bytes_eq (encode_utf8_all cs) (b ∷ rest) ≡ true = (both_true (all_scalars cs) (bytes_eq (encode_utf8_all cs) (b ∷ rest)) test).1 in
    let at = begins cs b rest (both_true (all_scalars cs) (bytes_eq (encode_utf8_all cs) (b ∷ rest)) test).0 ((bytes_eq-Decides (encode_utf8_all cs) (b ∷ rest)).0 spelled) in
    ((at.first, at.is, at.either), λ small. clean rest (at.after small))

pub clean_words : (words : List Text) → All IsUtf8 words → All HasNoZero words → CleanWords words
clean_words [] all plain = tt
clean_words (w ∷ rest) all plain = (
  λ d more e. (clean (45 ∷ d ∷ more) (subst IsUtf8 e (All-head IsUtf8 w rest all))).1 (omega arith),
  All-head HasNoZero w rest plain,
  clean_words rest (All-tail IsUtf8 w rest all) (All-tail HasNoZero w rest plain),
)
