use Rattle.std.proofs.Common.{◌<◌, set, length, ap, ◌∙◌, arith}
use Rattle.b2_memory.proofs.EachCountdownFallsInTurn.{down_more}
use Rattle.b2_memory.proofs.script.count_down.Goals as goal

pub loop-start-preserved : goal.loop-start-preserved
loop-start-preserved c =
    let low : c.loop-start.start-index < length c.loop-start.start-items = omega arith in
    ap (set c.loop-start.start-items c.loop-start.start-index) c.saturating_sub.ensures
    ∙ down_more c.deref_mut-start-items.result.now c.loop-start.start-items c.loop-start.start-index c.loop-start-test.true low c.loop-start.invariant
