use Rattle.std.proofs.Common.{◌==◌}
use Rattle.b2_base.specs.Numbers.{is_among}
use Rattle.b2_generators.specs.Layers.{stock}
use Rattle.b2_generators.proofs.StocksFollowAddsAndMoves.{place_add_more, adds_none}
use Rattle.b2_generators.proofs.givers.add_at_all.Goals as goal

pub loop-target-init : goal.loop-target-init
loop-target-init c type p = adds_none (is_among (stock c.args.givers.now type) p) (c.args.place == p)

pub loop-target-preserved : goal.loop-target-preserved
loop-target-preserved c = place_add_more c.args.givers.now c.loop-target.givers c.add.new.givers c.args.targets.now c.loop-target.target-index c.target-item.result c.args.place c.loop-target-test.true c.target-item.is c.loop-target.invariant c.in_ok-add.ensures
