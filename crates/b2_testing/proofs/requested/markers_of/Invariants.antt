use Rattle.b2_testing.proofs.MarkersAreCounted.{AreCounted}
use Rattle.b2_testing.proofs.requested.markers_of.Given as goal

-- the markers of the tests from this place on are marked
abbrev pub invariant-loop-left : goal.invariant-loop-left
invariant-loop-left l = AreCounted l.declared l.left l.end l.marks.items

abbrev pub decreases-loop-left : goal.decreases-loop-left
decreases-loop-left l = l.left
