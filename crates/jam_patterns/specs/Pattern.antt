use Rattle.std.specs.Prelude.{ℕ, Bool, nat_le, List, Option, Some, None, is_some, chars, if◌then◌else◌}
use Rattle.std.specs.Option.{option_and_then}
use Rattle.regex.specs.Patterns.{Re, default_config}
use Rattle.regex_syntax.specs.Brackets.{Nested}
use Rattle.regex_syntax.specs.Grammar.{Names, read}

-- a regular expression, and the names of its groups from group 0 on, which is the whole match
pub record Pattern : Type 0 where
  pub re : Re
  pub names : Names

-- what the grammar reads, where it is nested at most 250 deep
abbrev pub not_too_deep : Nested Re × Names → Option Pattern
not_too_deep (nested, names) = if nat_le nested.depth 250 then Some (record { re = nested.value; names = names }) else None

-- what the grammar of regular expressions reads in the text, unless it is nested too deep
abbrev pub pattern_of : List ℕ → Option Pattern
pattern_of source = option_and_then not_too_deep (read default_config (chars source))

-- whether the text is a pattern
abbrev pub is_pattern : List ℕ → Bool
is_pattern source = is_some (pattern_of source)
