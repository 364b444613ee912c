use Rattle.std.proofs.Common.{◌++◌, codes, ap, ◌∙◌}
use Rattle.std.specs.Fmt.{decimal}
use Rattle.b2_drill.specs.Drills.{line, sources_of}
use Rattle.b2_drill.proofs.EachStepAddsOnePiece.{made_line}
use Rattle.b2_drill.proofs.project.make_line.Goals as goal

pub returns : goal.returns
returns c =
    made_line (decimal c.args.i) (sources_of c.args.i) _
    (c.in_ok-format.ensures.ok ∙ ap (λ sources. codes "make t" ++ (decimal c.args.i ++ (codes " : " ++ (sources ++ line (codes " : @join ;"))))) c.in_ok-sources.ensures)
