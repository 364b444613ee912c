use Rattle.jam_engine.proofs.SetsGrow.{set_step}
use Rattle.jam_engine.proofs.index.add_all.Goals as goal

pub loop-text-preserved : goal.loop-text-preserved
loop-text-preserved c =
    set_step c.args.texts.now c.loop-text.text-index c.text-item.result _ _ _ _ c.loop-text-test.true c.text-item.is c.in_ok-key.ensures c.loop-text.invariant c.in_ok-_before.ensures.ok
