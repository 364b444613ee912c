use Rattle.b2_props.proofs.DraftHoldsEachGainedPair.{takes_next}
use Rattle.b2_props.proofs.draft.Draft.put_all.Goals as goal

pub loop-pair-preserved : goal.loop-pair-preserved
loop-pair-preserved c =
    takes_next c.args.registry.now c.args.pairs.now c.loop-pair.pair-index c.pair-item.result c.args.self.now c.loop-pair.self c.put.new.self c.loop-pair-test.true c.pair-item.is c.loop-pair.invariant c.in_ok-put.ensures
