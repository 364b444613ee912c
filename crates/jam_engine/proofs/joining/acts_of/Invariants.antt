use Rattle.std.proofs.Common.{map, ◌≡◌}
use Rattle.std.specs.List.{AllByRecursion}
use Rattle.jam_engine.specs.Joining.{IsKnownOf, finished_by}
use Rattle.jam_engine.proofs.joining.acts_of.Given as goal

abbrev pub invariant-loop-act : goal.invariant-loop-act
invariant-loop-act l = record {
  made : l.made ≡ map (finished_by l.graph.world.now l.scene) l.yielded;
  known : AllByRecursion (IsKnownOf l.graph.world.now l.scene) l.yielded;
}
