use Rattle.std.proofs.Common.{drop, ◌≡◌}
use Rattle.std.specs.List.{find}
use Rattle.jam_engine.specs.Tables.{is_in}
use Rattle.jam_engine.proofs.steps.first_notfile.Given as goal

abbrev pub invariant-loop-target : goal.invariant-loop-target
invariant-loop-target l = find (is_in l.scene.index.notfile) (drop l.target-index l.targets) ≡ find (is_in l.scene.index.notfile) l.targets
