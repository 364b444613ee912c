use Rattle.std.proofs.Common.{◌+◌, length, refl, ap, arith}
use Rattle.b2_explain.proofs.StepsAreExplained.{told_none, told_more, told_all}
use Rattle.b2_explain.proofs.explain.causes_of.Goals as goal

pub loop-place-init : goal.loop-place-init
loop-place-init c = told_none c.args.plan.now c.args.survey.now c.new-whys.result c.new-whys.ensures c.sound.ensures

pub add_cause-requires-clause-step : goal.add_cause-requires-clause-step
add_cause-requires-clause-step c =
    let low = c.loop-place-test.true in
    let same = ap length c.as_slice-place-end.ensures in
    let size = c.requires.surveyed.1.board.size in
    record { some = omega arith; within = omega (arith, low, same, size) }

pub loop-place-preserved : goal.loop-place-preserved
loop-place-preserved c = told_more c.args.plan.now c.args.survey.now c.loop-place.place (c.loop-place.place + 1) c.loop-place.whys c.add_cause.new.whys refl c.in_ok-add_cause.ensures c.loop-place.invariant

pub returns : goal.returns
returns c =
    let past = c.loop-place-test.false in
    let same = ap length c.as_slice-place-end.ensures in
    told_all c.args.plan.now c.requires.surveyed.0 c.args.survey.now c.loop-place.place c.loop-place.whys c.requires.surveyed.1 c.sound.ensures (omega (arith, past, same)) c.loop-place.invariant
