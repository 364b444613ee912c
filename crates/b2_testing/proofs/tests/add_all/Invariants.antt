use Rattle.std.proofs.Common.{◌≡◌, ◌++◌}
use Rattle.std.specs.Vec.Iter.{into_iter_items}
use Rattle.b2_testing.specs.Readying.{AddsTargets}
use Rattle.b2_testing.proofs.tests.add_all.Given as goal

abbrev pub invariant-loop-target : goal.invariant-loop-target
invariant-loop-target l = record {
  whole : l.yielded ++ into_iter_items l.target-iterator ≡ l.fn.targets.items;
  adds : AddsTargets l.initial.project l.yielded l.project;
}
