use Rattle.std.proofs.Common.{◌<◌, set, length, ap, ◌∙◌, arith}
use Rattle.b2_memory.proofs.EachCountdownFallsInTurn.{call_after_more}
use Rattle.b2_memory.proofs.script.pass_all.Goals as goal

pub loop-call-preserved : goal.loop-call-preserved
loop-call-preserved c =
    let low : c.loop-call.call-index < length c.loop-call.call-items = omega arith in
    ap (set c.loop-call.call-items c.loop-call.call-index) c.pass.ensures
    ∙ call_after_more c.args.kind c.deref_mut-call-items.result.now c.loop-call.call-items c.loop-call.call-index _ c.loop-call-test.true low c.loop-call.invariant
