-- How large a list of texts is.
use Rattle.std.specs.Prelude.{ℕ, ◌+◌, min, length}
use Rattle.std.specs.List.{sum_by}
use Rattle.jam_journal.specs.Scopes.{Value}

-- the sum of the texts' lengths plus one each
abbrev pub size_of : Value → ℕ
size_of texts = sum_by (λ text. length text + 1) texts

-- a number as 64 bits hold it: the largest of them stands for all above it
abbrev pub capped : ℕ → ℕ
capped number = min number 18446744073709551615
