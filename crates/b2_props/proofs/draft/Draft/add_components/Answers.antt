use Rattle.std.proofs.Common.{subst}
use Rattle.b2_props.specs.Holding.{Gains}
use Rattle.b2_props.proofs.DraftHoldsEachGainedPair.{gains_components}
use Rattle.b2_props.proofs.draft.Draft.add_components.Goals as goal

pub loop-pair-preserved : goal.loop-pair-preserved
loop-pair-preserved c =
    gains_components c.args.registry.now c.args.pairs.now c.loop-pair.pair-index c.pair-item.result c.args.self.now c.loop-pair.self c.add_all.new.self c.loop-pair-test.true c.pair-item.is c.loop-pair.invariant
    (subst (λ ps. Gains c.args.registry.now ps c.loop-pair.self c.add_all.new.self) c.parts_in.ensures c.in_ok-add_all.ensures)
