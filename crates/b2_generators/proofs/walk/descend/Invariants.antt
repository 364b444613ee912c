use Rattle.b2_generators.proofs.WalkDownGivesFirstList.{IsWalking}
use Rattle.b2_generators.proofs.walk.descend.Given as goal

abbrev pub invariant-loop-left : goal.invariant-loop-left
invariant-loop-left l = IsWalking l.generators l.layers l.depth l.fn.types l.left l.types l.places l.branch

abbrev pub decreases-loop-left : goal.decreases-loop-left
decreases-loop-left l = l.left
