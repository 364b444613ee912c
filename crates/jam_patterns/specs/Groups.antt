use Rattle.std.specs.Prelude.{◌-◌, ℕ, List, [], map, length, Option, Some, None, option_map, slice_range}
use Rattle.std.specs.List.{range_with_len}
use Rattle.regex.specs.Patterns.{Re, Match, find_str}
use Rattle.regex.specs.Writes.{group_of}
use Rattle.regex_syntax.specs.Grammar.{Names}
use Rattle.jam_patterns.specs.Pattern.{pattern_of}

-- the part of the text from a start to an end; the empty text for a group that takes no part in a match
abbrev pub part : List ℕ → Option (ℕ × ℕ) → List ℕ
part text None = []
part text (Some span) = slice_range text span.0 span.1

-- the texts of a match's groups, from group 1 on
abbrev pub texts_of : List ℕ → Names → Match → List (List ℕ)
texts_of text names m = map (λ n. part text (group_of m n)) (range_with_len 1 (length names - 1))

-- the texts of the groups of the first match, if there is a match
abbrev pub first_groups : Re → Names → List ℕ → Option (List (List ℕ))
first_groups re names text = option_map (texts_of text names) (find_str re text 0)

-- the groups of the pattern's first match in the text, where the first text is a pattern
abbrev pub groups_of : List ℕ → List ℕ → Option (Option (List (List ℕ)))
groups_of source text = option_map (λ pattern. first_groups pattern.re pattern.names text) (pattern_of source)
