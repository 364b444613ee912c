use Rattle.std.specs.Prelude.{◌-◌, ℕ, List, map, length}
use Rattle.std.specs.List.{range_with_len}
use Rattle.regex.specs.Strings.{captures_span, captures_haystack, captures_names}
use Rattle.regex.specs.declared.string.captures.Captures.{Captures}
use Rattle.jam_patterns.specs.Groups.{part}

-- the texts of so many groups of captures, from group 1 on
abbrev pub captured_first : Captures → ℕ → List (List ℕ)
captured_first c count = map (λ n. part (captures_haystack c) (captures_span c n)) (range_with_len 1 count)

-- the texts of all of them
abbrev pub captured : Captures → List (List ℕ)
captured c = captured_first c (length (captures_names c) - 1)
