use Rattle.std.proofs.Common.{◌≡◌, ◌+◌, ◌*◌, drop}
use Rattle.jam_expand.specs.Words.{pieces_of, any_part, too_deep}
use Rattle.jam_expand.proofs.expand.+depth.Given as goal

abbrev pub decreases-is_deeper : goal.decreases-is_deeper
decreases-is_deeper l = 2 * l.levels + 1

abbrev pub decreases-is_too_deep : goal.decreases-is_too_deep
decreases-is_too_deep l = 2 * l.levels

abbrev pub invariant-is_deeper-loop-piece : goal.invariant-is_deeper-loop-piece
invariant-is_deeper-loop-piece l = any_part (too_deep l.levels) (drop l.piece-index (pieces_of l.word)) ≡ any_part (too_deep l.levels) (pieces_of l.word)
