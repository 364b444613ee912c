use Rattle.std.proofs.Common.{map}
use Rattle.jam_graph.proofs.ListsGrow.{flat_step}
use Rattle.jam_graph.proofs.declaring.push_pairs.Goals as goal

pub loop-target-preserved : goal.loop-target-preserved
loop-target-preserved c =
    flat_step (λ t. map (λ s. (t, s)) c.args.sources.now) c.args.pairs.now _ _ c.args.targets.now c.loop-target.target-index c.target-item.result c.loop-target-test.true c.target-item.is c.loop-target.invariant c.in_ok-push_with.ensures
