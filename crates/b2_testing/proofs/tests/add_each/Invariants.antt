use Rattle.std.proofs.Common.{take}
use Rattle.std.specs.List.{flat_map}
use Rattle.b2_testing.specs.Adding.{added}
use Rattle.b2_testing.specs.Readying.{AddsTargets}
use Rattle.b2_testing.proofs.tests.add_each.Given as goal

abbrev pub invariant-loop-place : goal.invariant-loop-place
invariant-loop-place l = AddsTargets l.initial.project (flat_map added (take l.place l.initial.project.declared.tests)) l.project
