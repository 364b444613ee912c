use Rattle.std.proofs.Common.{reverse}
use Rattle.b2_generate.specs.Machine.{names_of}
use Rattle.b2_generate.specs.Opening.{frames}
use Rattle.b2_generate.proofs.DatesOrMarksShowClear.{IsGoingDown}
use Rattle.b2_generate.proofs.clear.is_clear_below.Given as goal

abbrev pub invariant-loop-left : goal.invariant-loop-left
invariant-loop-left l = IsGoingDown (names_of (frames l.stack)) (reverse l.nodes) l.place l.left l.marks.items

abbrev pub decreases-loop-left : goal.decreases-loop-left
decreases-loop-left l = l.left
