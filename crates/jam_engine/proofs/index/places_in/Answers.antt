use Rattle.jam_engine.proofs.NumbersGrow.{no_numbers, places_step}
use Rattle.jam_engine.proofs.index.places_in.Goals as goal

pub loop-place-init : goal.loop-place-init
loop-place-init c t = no_numbers _ t c.new-made.ensures

pub loop-place-preserved : goal.loop-place-preserved
loop-place-preserved c = places_step c.args.pairs.now c.loop-place.place c.index-pairs-place.result _ _ c.loop-place-test.true c.index-pairs-place.is c.loop-place.invariant c.in_ok-add_number.ensures
