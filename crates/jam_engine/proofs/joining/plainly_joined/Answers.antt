use Rattle.jam_engine.proofs.ActsJoin.{none_joined}
use Rattle.jam_engine.proofs.joining.plainly_joined.Goals as goal

pub loop-act-init : goal.loop-act-init
loop-act-init c = none_joined c.args.graph.now.world.now c.new-joined.result c.new-joined.ensures.acts c.new-joined.ensures.places
