use Rattle.std.proofs.Common.{Err, sym, subst}
use Rattle.std.proofs.lemmas.Result.{err_from_is_err_and}
use Rattle.b2_runs.specs.Reports.{start_line}
use Rattle.b2_refusals.specs.Lines.{text_line, step_lines}
use Rattle.b2_top.specs.Writing.{Writes}
use Rattle.b2_top.proofs.PiecesWrittenMakeTheWhole.{writes_err, writes_stop, writes_then}
use Rattle.b2_top.proofs.look_lines.write_step.Goals as goal

pub returns-in_err-write_made : goal.returns-in_err-write_made
returns-in_err-write_made g c =
    let (y, e, q) = err_from_is_err_and c.from_residual.result c.from_residual.ensures.1 in
    let step = c.args.step.now in
    let x = g.S.Sink.output c.args.out.now in
    let z = g.S.Sink.output c.write_made.new.out in
    let says = subst (λ r. Writes {T = Unit {0}} (start_line step) x z (Err r)) (sym q) (c.in_err-write_made.ensures (start_line step) c.start_line.ensures) in
    writes_err (step_lines step) x z c.from_residual.result y e (writes_stop (start_line step) (text_line step) x z y says)

pub returns : goal.returns
returns g c =
    let step = c.args.step.now in
    let x = g.S.Sink.output c.args.out.now in
    let y = g.S.Sink.output c.write_made.new.out in
    let z = g.S.Sink.output c.write_made-2.new.out in
    writes_then (start_line step) (text_line step) x y z c.write_made-2.result (c.in_ok-write_made.ensures (start_line step) c.start_line.ensures) (c.write_made-2.ensures (text_line step) c.text_line.ensures)
