use Rattle.jam_graph.specs.Graphs.{act_in}
use Rattle.jam_graph.proofs.ListsGrow.{filter_step}
use Rattle.jam_graph.proofs.declaring.acts_in.Goals as goal

pub loop-one-preserved : goal.loop-one-preserved
loop-one-preserved c = filter_step act_in _ _ c.args.said.now c.loop-one.one-index c.one-item.result c.loop-one-test.true c.one-item.is c.loop-one.invariant c.in_ok-push_act.ensures
