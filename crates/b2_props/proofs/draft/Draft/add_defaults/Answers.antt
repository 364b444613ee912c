use Rattle.b2_features.specs.Table.{seen}
use Rattle.b2_props.proofs.DraftHoldsEachGainedPair.{gains_default}
use Rattle.b2_props.proofs.draft.Draft.add_defaults.Goals as goal

pub loop-place-preserved : goal.loop-place-preserved
loop-place-preserved c = gains_default c.args.registry.now c.loop-place.place (seen c.at.result.now) c.args.self.now c.loop-place.self c.add_default.new.self c.at.ensures c.loop-place.invariant c.in_ok-add_default.ensures
