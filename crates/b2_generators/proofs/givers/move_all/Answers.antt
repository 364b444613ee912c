use Rattle.b2_generators.proofs.StocksFollowAddsAndMoves.{moved_start, moved_more}
use Rattle.b2_generators.proofs.givers.move_all.Goals as goal

pub loop-target-init : goal.loop-target-init
loop-target-init c = moved_start c.args.givers.now c.args.places.now

pub loop-target-preserved : goal.loop-target-preserved
loop-target-preserved c = moved_more c.args.givers.now c.loop-target.givers c.move_givers.new.givers c.args.targets.now c.loop-target.target-index c.target-item.result c.args.places.now c.loop-target.places c.move_givers.new.places c.loop-target-test.true c.target-item.is c.loop-target.invariant c.in_ok-move_givers.ensures
