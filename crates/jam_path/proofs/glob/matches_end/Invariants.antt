use Rattle.std.proofs.Common.{◌+◌, ◌↔◌, ◌∷◌, length}
use denote.Text.{Utf8}
use denote.Shadow.{shadow}
use Rattle.std.specs.Str.{chars}
use Rattle.jam_path.specs.Patterns.{Match}
use Rattle.jam_path.specs.Steps.{IsUnclosed}
use Rattle.jam_path.proofs.glob.matches_end.Given as goal

-- what is left answers for all
abbrev pub invariant-places : goal.invariant-places
invariant-places l =
    shadow (Utf8 l.rest) × shadow (Utf8 l.left) × (Match (42 ∷ chars l.rest) (chars l.left) ↔ Match (42 ∷ chars l.fn.pattern) (chars l.fn.text))
    × IsUnclosed l.unclosed l.rest

abbrev pub decreases-places : goal.decreases-places
decreases-places l = length l.rest + length l.left
