use Rattle.jam_expand.proofs.ReadingBackFindsUnclosed.{IsRead}
use Rattle.jam_expand.proofs.piece.unclosed_places.Given as goal

abbrev pub invariant-bytes : goal.invariant-bytes
invariant-bytes l = IsRead l.bytes l.at l.places.items l.spare l.opens

abbrev pub decreases-bytes : goal.decreases-bytes
decreases-bytes l = l.at
