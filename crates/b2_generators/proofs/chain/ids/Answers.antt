use Rattle.b2_generators.proofs.AnswerNamesShortestChains.{ids_more}
use Rattle.b2_generators.proofs.chain.ids.Goals as goal

pub loop-place-preserved : goal.loop-place-preserved
loop-place-preserved c = ids_more c.args.generators.now c.args.places.now c.loop-place.place-index c.loop-place.ids c.push_id.new.ids c.loop-place-test.true c.loop-place.invariant c.in_ok-push_id.ensures
