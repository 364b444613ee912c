-- A digest is 64 lower-case hexadecimal digits.
use Rattle.std.proofs.Common.{◌≡◌, ℕ, zero, suc, ◌*◌, ◌/◌, ◌%◌, ◌^◌, ◌<◌, true, false, List, [], ◌∷◌, ◌++◌, length, refl, arith}
use Rattle.std.specs.Prelude.{slice_index}
use Rattle.std.specs.List.{AllByRecursion}
use Rattle.std.specs.Int.{to_be_bytes, w32, byte_at, bytes_high_first}
use Rattle.std.specs.Fmt.{digit_glyph}
use Rattle.std.proofs.lemmas.List.Elements.{All-from_recursion}
use Rattle.sha2.specs.Sha256.{sha256, digest_bytes}
use Rattle.sha2.proofs.Facts256.{length-sha256}
use Rattle.b2_base.specs.Bytes.{HasNoZero}
use Rattle.b2_base.specs.Hexadecimals.{hexadecimal}
use Rattle.b2_log.specs.Good.{IsHex, IsDigest}
use Rattle.b2_facts.specs.Digests.{digest_of}

-- ---- bytes

below_256 : (n : ℕ) → n % 256 < 256
below_256 n = omega arith

abbrev AreBytes : List ℕ → Type 0
AreBytes = AllByRecursion (λ byte. byte < 256)

byte_small : (k n : ℕ) → byte_at k n < 256
byte_small zero n = below_256 n
byte_small (suc k) n = below_256 (n / 256 ^ suc k)

word_small : (k n : ℕ) → AreBytes (bytes_high_first k n)
word_small zero n = tt
word_small (suc k) n = (byte_small k n, word_small k n)

both_small : (xs ys : List ℕ) → AreBytes xs → AreBytes ys → AreBytes (xs ++ ys)
both_small [] ys a b = b
both_small (x ∷ xs) ys a b = (a.0, both_small xs ys a.1 b)

digest_small : (h : List ℕ) (n : ℕ) → AreBytes (digest_bytes h n)
unfolding digest_bytes
digest_small h zero = tt
digest_small h (suc n) = both_small (digest_bytes h n) (to_be_bytes w32 (slice_index h n)) (digest_small h n) (word_small 4 (slice_index h n))

sha_small : (bytes : List ℕ) → AreBytes (sha256 bytes)
unfolding sha256
sha_small bytes = digest_small _ 8

-- ---- digits

glyph_hex : (d : ℕ) → d < 16 → IsHex (digit_glyph false d)
glyph_hex zero low = refl
glyph_hex (suc zero) low = refl
glyph_hex (suc (suc zero)) low = refl
glyph_hex (suc (suc (suc zero))) low = refl
glyph_hex (suc (suc (suc (suc zero)))) low = refl
glyph_hex (suc (suc (suc (suc (suc zero))))) low = refl
glyph_hex (suc (suc (suc (suc (suc (suc zero)))))) low = refl
glyph_hex (suc (suc (suc (suc (suc (suc (suc zero))))))) low = refl
glyph_hex (suc (suc (suc (suc (suc (suc (suc (suc zero)))))))) low = refl
glyph_hex (suc (suc (suc (suc (suc (suc (suc (suc (suc zero))))))))) low = refl
glyph_hex (suc (suc (suc (suc (suc (suc (suc (suc (suc (suc zero)))))))))) low = refl
glyph_hex (suc (suc (suc (suc (suc (suc (suc (suc (suc (suc (suc zero))))))))))) low = refl
glyph_hex (suc (suc (suc (suc (suc (suc (suc (suc (suc (suc (suc (suc zero)))))))))))) low = refl
glyph_hex (suc (suc (suc (suc (suc (suc (suc (suc (suc (suc (suc (suc (suc zero))))))))))))) low = refl
glyph_hex (suc (suc (suc (suc (suc (suc (suc (suc (suc (suc (suc (suc (suc (suc zero)))))))))))))) low = refl
glyph_hex (suc (suc (suc (suc (suc (suc (suc (suc (suc (suc (suc (suc (suc (suc (suc zero))))))))))))))) low = refl
glyph_hex (suc (suc (suc (suc (suc (suc (suc (suc (suc (suc (suc (suc (suc (suc (suc (suc d)))))))))))))))) low = absurd (omega arith)

hex_count : (bytes : List ℕ) → length (hexadecimal bytes) ≡ 2 * length bytes
hex_count [] = refl
hex_count (b ∷ bytes) = let e = hex_count bytes in let f : length (hexadecimal (b ∷ bytes)) ≡ suc (suc (length (hexadecimal bytes))) = refl in omega (arith, e, f)

hex_digits : (bytes : List ℕ) → AreBytes bytes → AllByRecursion IsHex (hexadecimal bytes)
hex_digits [] small = tt
hex_digits (b ∷ bytes) small = (glyph_hex (b / 16) (let h = small.0 in omega (arith, h)), (glyph_hex (b % 16) (omega arith), hex_digits bytes small.1))

pub digest_good : (bytes : List ℕ) → IsDigest (digest_of bytes)
digest_good bytes = record {
  count = (let e = hex_count (sha256 bytes) in let f = length-sha256 bytes in omega (arith, e, f));
  digits = All-from_recursion IsHex (hexadecimal (sha256 bytes)) (hex_digits (sha256 bytes) (sha_small bytes));
}

-- a hexadecimal digit is not zero
not_zero : (b : ℕ) → IsHex b → 0 < b
not_zero zero hex = absurd (let h : false ≡ true = hex in cc)
not_zero (suc b) hex = omega arith

all_not_zero : (bytes : List ℕ) → AllByRecursion IsHex bytes → AllByRecursion (λ byte. 0 < byte) bytes
all_not_zero [] all = tt
all_not_zero (b ∷ bytes) all = (not_zero b all.0, all_not_zero bytes all.1)

pub digest_no_zero : (bytes : List ℕ) → HasNoZero (digest_of bytes)
digest_no_zero bytes = All-from_recursion (λ byte. 0 < byte) (hexadecimal (sha256 bytes)) (all_not_zero (hexadecimal (sha256 bytes)) (hex_digits (sha256 bytes) (sha_small bytes)))
