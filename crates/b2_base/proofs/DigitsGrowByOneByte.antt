-- The digits of one byte more.
use Rattle.std.proofs.Common.{◌≡◌, ℕ, ◌+◌, ◌<◌, ◌/◌, ◌%◌, false, List, [], ◌∷◌, ◌++◌, length, take, get_or, sym, ap, ◌∙◌}
use Rattle.std.specs.Fmt.{digit_glyph}
use Rattle.std.proofs.lemmas.List.{take_more}
use Rattle.std.proofs.lemmas.Grind.{flat_map-append}
use Rattle.b2_base.specs.Hexadecimals.{hexadecimal}

hex_more : (bytes : List ℕ) (i : ℕ) → i < length bytes → hexadecimal (take i bytes) ++ hexadecimal (get_or bytes i 0 ∷ []) ≡ hexadecimal (take (i + 1) bytes)
hex_more bytes i h = sym (ap hexadecimal (take_more bytes i 0 h) ∙ flat_map-append (λ b. digit_glyph false (b / 16) ∷ digit_glyph false (b % 16) ∷ []) (take i bytes) (get_or bytes i 0 ∷ []))

pub digits_more : (bytes : List ℕ) (i : ℕ) (before after pair : List ℕ) → i < length bytes → before ≡ hexadecimal (take i bytes) → pair ≡ hexadecimal (get_or bytes i 0 ∷ []) → after ≡ before ++ pair → after ≡ hexadecimal (take (i + 1) bytes)
digits_more bytes i before after pair low was is adds = adds ∙ ap (λ b. b ++ pair) was ∙ ap (λ p. hexadecimal (take i bytes) ++ p) is ∙ hex_more bytes i low
