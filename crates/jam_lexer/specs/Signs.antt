-- The bytes that have a meaning, and lines.
use Rattle.std.specs.Prelude.{ℕ, ◌+◌, ◌==◌, List, take, count_by}
use Rattle.b2_base.specs.Bytes.{line_feed}

-- the bytes by their names
abbrev pub quote : ℕ
quote = 34

abbrev pub hash : ℕ
hash = 35

abbrev pub left_brace : ℕ
left_brace = 123

abbrev pub right_brace : ℕ
right_brace = 125

-- the line of a place: the line feeds before it, counted from 1
abbrev pub line_of : List ℕ → ℕ → ℕ
line_of bytes place = 1 + count_by (λ byte. byte == line_feed) (take place bytes)
