use Rattle.std.proofs.Common.{Err, sym, subst}
use Rattle.std.proofs.lemmas.Result.{err_from_is_err_and}
use Rattle.b2_runs.specs.Reports.{line}
use Rattle.b2_top.specs.Reports.{echo_lines}
use Rattle.b2_top.specs.Writing.{Writes}
use Rattle.b2_top.proofs.PiecesWrittenMakeTheWhole.{written_none, writes_err, list_more, list_stops, list_done, made_again}
use Rattle.b2_top.proofs.lines.write_echoes.Goals as goal

pub loop-echo-init : goal.loop-echo-init
loop-echo-init g c = written_none (g.S.Sink.output c.args.out.now)

pub returns-in_err-write_made : goal.returns-in_err-write_made
returns-in_err-write_made g c =
    let (y, e, q) = err_from_is_err_and c.from_residual.result c.from_residual.ensures.1 in
    let start = g.S.Sink.output c.args.out.now in
    let here = g.S.Sink.output c.loop-echo.out in
    let after = g.S.Sink.output c.write_made.new.out in
    let text = c.echo-item.result in
    let says = c.in_err-write_made.ensures (line text) (made_again c.echo_line.result (λ t. line t) c.as_str.ensures.value c.echo_line.ensures) in
    writes_err (echo_lines c.args.echoes.now) start after c.from_residual.result y e
    (list_stops line c.args.echoes.now c.loop-echo.echo-index text start here after y c.loop-echo-test.true c.echo-item.is c.loop-echo.invariant
    (subst (λ z. Writes {T = Unit {0}} (line text) here after (Err z)) (sym q) says))

pub loop-echo-preserved : goal.loop-echo-preserved
loop-echo-preserved g c =
    let start = g.S.Sink.output c.args.out.now in
    let here = g.S.Sink.output c.loop-echo.out in
    let after = g.S.Sink.output c.write_made.new.out in
    let text = c.echo-item.result in
    list_more line c.args.echoes.now c.loop-echo.echo-index text start here after c.loop-echo-test.true c.echo-item.is c.loop-echo.invariant
    (c.in_ok-write_made.ensures (line text) (made_again c.echo_line.result (λ t. line t) c.as_str.ensures.value c.echo_line.ensures))

pub returns : goal.returns
returns g c = list_done line c.args.echoes.now c.loop-echo.echo-index (g.S.Sink.output c.args.out.now) (g.S.Sink.output c.loop-echo.out) c.loop-echo-test.false c.loop-echo.invariant
