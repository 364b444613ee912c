-- Bytes as hexadecimal digits.
use Rattle.std.specs.Prelude.{ℕ, ◌/◌, ◌%◌, false, List, [], ◌∷◌}
use Rattle.std.specs.List.{flat_map}
use Rattle.std.specs.Fmt.{digit_glyph}

-- two lower-case hexadecimal digits for each byte
abbrev pub hexadecimal : List ℕ → List ℕ
hexadecimal bytes = flat_map (λ byte. digit_glyph false (byte / 16) ∷ digit_glyph false (byte % 16) ∷ []) bytes
