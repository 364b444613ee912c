use Rattle.std.proofs.Common.{append_assoc}
use Rattle.b2_drill.proofs.EachStepAddsOnePiece.{sources_of_later}
use Rattle.b2_drill.proofs.project.sources_of.Goals as goal

pub returns : goal.returns
returns c = rw (sources_of_later c.args.i c.if-i-eq0.false) (simp append_assoc c.in_ok-format-2.ensures.ok)
