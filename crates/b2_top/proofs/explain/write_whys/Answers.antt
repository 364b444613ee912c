use Rattle.std.proofs.Common.{Err, sym, subst}
use Rattle.std.proofs.lemmas.Result.{err_from_is_err_and}
use Rattle.b2_explain.specs.Lines.{why_line, why_lines}
use Rattle.b2_top.specs.Writing.{Writes}
use Rattle.b2_top.proofs.PiecesWrittenMakeTheWhole.{written_none, writes_err, list_more, list_stops, list_done}
use Rattle.b2_top.proofs.explain.write_whys.Goals as goal

pub loop-why-init : goal.loop-why-init
loop-why-init g c = written_none (g.S.Sink.output c.args.out.now)

pub returns-in_err-write_why : goal.returns-in_err-write_why
returns-in_err-write_why g c =
    let (y, e, q) = err_from_is_err_and c.from_residual.result c.from_residual.ensures.1 in
    let line = why_line c.args.steps.now in
    let start = g.S.Sink.output c.args.out.now in
    let here = g.S.Sink.output c.loop-why.out in
    let after = g.S.Sink.output c.write_why.new.out in
    let why = c.why-item.result in
    writes_err (why_lines c.args.steps.now c.args.whys.now) start after c.from_residual.result y e
    (list_stops line c.args.whys.now c.loop-why.why-index why start here after y c.loop-why-test.true c.why-item.is c.loop-why.invariant
    (subst (λ z. Writes {T = Unit {0}} (line why) here after (Err z)) (sym q) c.in_err-write_why.ensures))

pub loop-why-preserved : goal.loop-why-preserved
loop-why-preserved g c =
    list_more (why_line c.args.steps.now) c.args.whys.now c.loop-why.why-index c.why-item.result (g.S.Sink.output c.args.out.now) (g.S.Sink.output c.loop-why.out) (g.S.Sink.output c.write_why.new.out)
    c.loop-why-test.true c.why-item.is c.loop-why.invariant c.in_ok-write_why.ensures

pub returns : goal.returns
returns g c = list_done (why_line c.args.steps.now) c.args.whys.now c.loop-why.why-index (g.S.Sink.output c.args.out.now) (g.S.Sink.output c.loop-why.out) c.loop-why-test.false c.loop-why.invariant
