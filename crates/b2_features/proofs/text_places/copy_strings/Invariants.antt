use Rattle.std.proofs.Common.{◌≡◌, map, take, string_bytes}
use Rattle.b2_features.proofs.text_places.copy_strings.Given as goal

-- the texts copied so far
abbrev pub invariant-loop-text : goal.invariant-loop-text
invariant-loop-text l = map string_bytes l.made.items ≡ take l.text-index l.texts
