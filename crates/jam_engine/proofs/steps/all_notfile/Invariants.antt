use Rattle.std.proofs.Common.{drop, ◌≡◌}
use Rattle.std.specs.List.{list_all}
use Rattle.jam_engine.specs.Tables.{is_in}
use Rattle.jam_engine.proofs.steps.all_notfile.Given as goal

abbrev pub invariant-loop-target : goal.invariant-loop-target
invariant-loop-target l = list_all (is_in l.scene.index.notfile) (drop l.target-index l.targets) ≡ list_all (is_in l.scene.index.notfile) l.targets
