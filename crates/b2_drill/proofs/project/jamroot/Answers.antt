use Rattle.b2_drill.specs.Drills.{join_line, make_line, make_lines}
use Rattle.b2_drill.proofs.EachStepAddsOnePiece.{grows, lines_grow}
use Rattle.b2_drill.proofs.project.jamroot.Goals as goal

pub loop-i-init : goal.loop-i-init
unfolding make_lines
loop-i-init c = c.in_ok-text.ensures.ok

pub loop-i-preserved : goal.loop-i-preserved
loop-i-preserved c = grows _ _ join_line (make_lines c.loop-i.i) (make_line c.loop-i.i) _ c.loop-i.invariant c.in_ok-push_make_line.ensures (lines_grow c.loop-i.i)
