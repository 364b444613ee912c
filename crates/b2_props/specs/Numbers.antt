use Rattle.std.specs.Prelude.{ℕ, ◌+◌, ◌*◌, ◌%◌, ◌^◌, List, fold}
use Rattle.b2_props.specs.Sets.{Pair}

-- a number with one more byte: the number times a prime, plus the byte, of which 64 bits are kept
unfoldable pub with_byte : ℕ → ℕ → ℕ
with_byte n byte = (n * 1099511628211 + byte) % 2 ^ 64

-- a number with the bytes of one more text, and after them a zero byte, which no text has
unfoldable pub with_text : ℕ → List ℕ → ℕ
with_text n text = with_byte (fold with_byte n text) 0

-- a number with both texts of one more pair
abbrev pub with_pair : ℕ → Pair → ℕ
with_pair n pair = with_text (with_text n pair.0) pair.1

-- the number of a list of pairs
unfoldable pub number_of : List Pair → ℕ
number_of pairs = fold with_pair 0 pairs
