use Rattle.std.proofs.Common.{take, sym, subst}
use Rattle.b2_references.specs.Grouping.{AreGroups}
use Rattle.b2_props.proofs.DraftHoldsEachGainedPair.{next_take}
use Rattle.b2_references.proofs.groups.by_feature.Goals as goal

pub loop-pair-preserved : goal.loop-pair-preserved
loop-pair-preserved c =
    subst (λ ps. AreGroups ps c.add.new.self) (sym (next_take c.args.pairs.now c.loop-pair.pair-index c.pair-item.result c.loop-pair-test.true c.pair-item.is))
    (c.in_ok-add.ensures (take c.loop-pair.pair-index c.args.pairs.now) c.loop-pair.invariant)
