use Rattle.std.proofs.Common.{Err, sym, subst}
use Rattle.std.proofs.lemmas.Result.{err_from_is_err_and}
use Rattle.b2_refusals.specs.Lines.{step_lines}
use Rattle.b2_top.specs.Looks.{steps_lines}
use Rattle.b2_top.specs.Writing.{Writes}
use Rattle.b2_top.proofs.PiecesWrittenMakeTheWhole.{written_none, writes_err, list_more, list_stops, list_done}
use Rattle.b2_top.proofs.look_lines.write_steps.Goals as goal

pub loop-step-init : goal.loop-step-init
loop-step-init g c = written_none (g.S.Sink.output c.args.out.now)

pub returns-in_err-write_step : goal.returns-in_err-write_step
returns-in_err-write_step g c =
    let (y, e, q) = err_from_is_err_and c.from_residual.result c.from_residual.ensures.1 in
    let start = g.S.Sink.output c.args.out.now in
    let here = g.S.Sink.output c.loop-step.out in
    let after = g.S.Sink.output c.write_step.new.out in
    let step = c.step-item.result in
    writes_err (steps_lines c.args.steps.now) start after c.from_residual.result y e
    (list_stops step_lines c.args.steps.now c.loop-step.step-index step start here after y c.loop-step-test.true c.step-item.is c.loop-step.invariant
    (subst (λ z. Writes {T = Unit {0}} (step_lines step) here after (Err z)) (sym q) c.in_err-write_step.ensures))

pub loop-step-preserved : goal.loop-step-preserved
loop-step-preserved g c =
    list_more step_lines c.args.steps.now c.loop-step.step-index c.step-item.result (g.S.Sink.output c.args.out.now) (g.S.Sink.output c.loop-step.out) (g.S.Sink.output c.write_step.new.out)
    c.loop-step-test.true c.step-item.is c.loop-step.invariant c.in_ok-write_step.ensures

pub returns : goal.returns
returns g c = list_done step_lines c.args.steps.now c.loop-step.step-index (g.S.Sink.output c.args.out.now) (g.S.Sink.output c.loop-step.out) c.loop-step-test.false c.loop-step.invariant
