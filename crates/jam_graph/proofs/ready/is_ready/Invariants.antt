use Rattle.std.proofs.Common.{take}
use Rattle.std.specs.List.{AllByRecursion}
use Rattle.jam_graph.specs.Graphs.{HasActions, HasTarget}
use Rattle.jam_graph.proofs.ready.is_ready.Given as goal

abbrev pub invariant-loop-act : goal.invariant-loop-act
invariant-loop-act l = AllByRecursion (λ act. HasActions l.graph.world.now act × HasTarget act) (take l.act-index l.act-items)
