use Rattle.jam_engine.proofs.MakersGrow.{maker_step}
use Rattle.jam_engine.proofs.links.add_maker.Goals as goal

pub loop-target-preserved : goal.loop-target-preserved
loop-target-preserved c =
    maker_step c.args.targets.now c.loop-target.target-index c.target-item.result c.args.place c.args.makers.now c.loop-target.makers c.add_number.new.numbers c.loop-target-test.true c.target-item.is c.loop-target.invariant c.in_ok-add_number.ensures
