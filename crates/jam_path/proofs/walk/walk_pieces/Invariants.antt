use Rattle.std.proofs.Common.{◌≡◌, ◌≤◌, ℕ, length, drop}
use denote.Text.{Utf8}
use denote.Shadow.{shadow}
use Rattle.std.specs.Str.{chars}
use Rattle.jam_path.proofs.WalkFits.{Fed}
use Rattle.jam_path.proofs.walk.walk_pieces.Given as goal

-- the pieces so far took one character each
abbrev pub invariant-pieces : goal.invariant-pieces
invariant-pieces l =
    shadow (Utf8 l.rest) × shadow (Utf8 l.left) × Fed (chars l.fn.pattern) (chars l.fn.text) (chars l.rest) (chars l.left)
    × ((k : ℕ) × (l.rest ≡ drop k l.fn.pattern)) × (length l.left ≤ length l.fn.text)

abbrev pub decreases-pieces : goal.decreases-pieces
decreases-pieces l = length l.left
