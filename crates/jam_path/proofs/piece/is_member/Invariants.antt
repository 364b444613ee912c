use Rattle.std.proofs.Common.{◌≡◌, length}
use denote.Text.{Utf8}
use denote.Shadow.{shadow}
use Rattle.std.specs.Str.{chars}
use Rattle.jam_path.specs.Patterns.{is_member}
use Rattle.jam_path.proofs.piece.is_member.Given as goal

-- the members that are left answer for all
abbrev pub invariant-loop-low : goal.invariant-loop-low
invariant-loop-low l = shadow (Utf8 l.rest) × (is_member (chars l.rest) l.character ≡ is_member (chars l.fn.members) l.character)

abbrev pub decreases-loop-low : goal.decreases-loop-low
decreases-loop-low l = length l.rest
