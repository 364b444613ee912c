use Rattle.std.proofs.Common.{take}
use Rattle.jam_engine.specs.Joining.{AreJoined}
use Rattle.jam_engine.proofs.joining.plainly_joined.Given as goal

abbrev pub invariant-loop-act : goal.invariant-loop-act
invariant-loop-act l = AreJoined l.graph.world.now (take l.act-index l.act-items) l.joined
