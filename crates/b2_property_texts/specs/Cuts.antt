-- Texts cut at a mark.
use Rattle.std.specs.Prelude.{ℕ, Bool, ◌==◌, ◌&&◌, nat_eq, List, [], ◌∷◌, Option, Some, None, option_map, drop, length, if◌then◌else◌}
use Rattle.std.specs.List.{list_any, starts_with, before_first, after_first}
use Rattle.b2_base.specs.Bytes.{HasNoZero}
use Rattle.b2_props.specs.Sets.{Pair}

-- what stands before and after the first place of a mark in a text, where it stands there
abbrev pub cut_at : List ℕ → List ℕ → Option (List ℕ × List ℕ)
cut_at mark [] = None
cut_at mark (b ∷ text) = if starts_with nat_eq (b ∷ text) mark then Some ([], drop (length mark) (b ∷ text)) else option_map (λ parts. (b ∷ parts.0, parts.1)) (cut_at mark text)

-- the character `>`
abbrev pub is_greater : ℕ → Bool
is_greater byte = byte == 62

-- the feature and the value of a text `<feature>value`: the feature, after `<`, which is 60, ends before the first `>`
abbrev pub named_pair : List ℕ → Option Pair
named_pair [] = None
named_pair (first ∷ rest) = if first == 60 && list_any is_greater rest then Some (before_first is_greater rest, after_first is_greater rest) else None

-- two texts that were cut out of one have no zero byte
pub record AreClean (parts : List ℕ × List ℕ) : Type 0 where
  pub before : HasNoZero parts.0
  pub after : HasNoZero parts.1
