use Rattle.std.proofs.Common.{drop, ◌≡◌}
use Rattle.std.specs.List.{list_any}
use Rattle.jam_engine.specs.Tables.{is_in}
use Rattle.jam_engine.proofs.steps.any_always.Given as goal

abbrev pub invariant-loop-target : goal.invariant-loop-target
invariant-loop-target l = list_any (is_in l.scene.index.always) (drop l.target-index l.targets) ≡ list_any (is_in l.scene.index.always) l.targets
