use Rattle.std.proofs.Common.{Err, sym, subst}
use Rattle.std.proofs.lemmas.Result.{err_from_is_err_and}
use Rattle.b2_request_plan.specs.Plans.{seen}
use Rattle.b2_top.specs.Reports.{echo_lines}
use Rattle.b2_top.specs.Looks.{view_lines, look_report}
use Rattle.b2_top.specs.Writing.{Writes}
use Rattle.b2_top.proofs.PiecesWrittenMakeTheWhole.{writes_err, writes_stop, writes_then}
use Rattle.b2_top.proofs.look_lines.write_look.Goals as goal

pub returns-in_err-write_echoes : goal.returns-in_err-write_echoes
returns-in_err-write_echoes g c =
    let (y, e, q) = err_from_is_err_and c.from_residual.result c.from_residual.ensures.1 in
    let a = echo_lines c.args.echoes.now in
    let b = view_lines c.args.view (seen c.args.planned.now) in
    let x = g.S.Sink.output c.args.out.now in
    let z = g.S.Sink.output c.write_echoes.new.out in
    writes_err (look_report c.args.echoes.now c.args.view (seen c.args.planned.now)) x z c.from_residual.result y e
    (writes_stop a b x z y (subst (λ r. Writes {T = Unit {0}} a x z (Err r)) (sym q) c.in_err-write_echoes.ensures))

pub returns : goal.returns
returns g c =
    let a = echo_lines c.args.echoes.now in
    let b = view_lines c.args.view (seen c.args.planned.now) in
    writes_then a b (g.S.Sink.output c.args.out.now) (g.S.Sink.output c.write_echoes.new.out) (g.S.Sink.output c.write_view.new.out) c.write_view.result c.in_ok-write_echoes.ensures c.write_view.ensures
