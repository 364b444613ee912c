use Rattle.std.proofs.Common.{Err, sym, subst}
use Rattle.std.proofs.lemmas.Result.{err_from_is_err_and}
use Rattle.b2_runs.specs.Reports.{host_fault_line}
use Rattle.b2_top.specs.Reports.{echo_lines, fault_report}
use Rattle.b2_top.specs.Writing.{Writes}
use Rattle.b2_top.proofs.PiecesWrittenMakeTheWhole.{writes_err, writes_stop, writes_then}
use Rattle.b2_top.proofs.lines.write_host_fault.Goals as goal

pub returns-in_err-write_echoes : goal.returns-in_err-write_echoes
returns-in_err-write_echoes g c =
    let (y, e, q) = err_from_is_err_and c.from_residual.result c.from_residual.ensures.1 in
    let a = echo_lines c.args.echoes.now in
    let x = g.S.Sink.output c.args.out.now in
    let z = g.S.Sink.output c.write_echoes.new.out in
    writes_err (fault_report c.args.echoes.now) x z c.from_residual.result y e
    (writes_stop a host_fault_line x z y (subst (λ r. Writes {T = Unit {0}} a x z (Err r)) (sym q) c.in_err-write_echoes.ensures))

pub returns : goal.returns
returns g c =
    let a = echo_lines c.args.echoes.now in
    let y = g.S.Sink.output c.write_echoes.new.out in
    let z = g.S.Sink.output c.write_text.new.out in
    writes_then a host_fault_line (g.S.Sink.output c.args.out.now) y z c.write_text.result c.in_ok-write_echoes.ensures
    (subst (λ t. Writes t y z c.write_text.result) c.host_fault_line.ensures c.write_text.ensures)
