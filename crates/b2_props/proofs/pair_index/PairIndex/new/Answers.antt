use Rattle.std.proofs.Common.{subst, sym, take, List}
use Rattle.b2_props.specs.Sets.{Pair}
use Rattle.b2_props.specs.Indexing.{IsIndexOf}
use Rattle.b2_props.proofs.DraftHoldsEachGainedPair.{next_take}
use Rattle.b2_props.proofs.pair_index.PairIndex.new.Goals as goal

pub loop-pair-preserved : goal.loop-pair-preserved
loop-pair-preserved c =
    subst (λ (ps : List Pair). IsIndexOf ps c.add.new.self) (sym (next_take c.args.pairs.now c.loop-pair.pair-index c.pair-item.result c.loop-pair-test.true c.pair-item.is))
    (c.in_ok-add.ensures (take c.loop-pair.pair-index c.args.pairs.now) c.loop-pair.invariant)
