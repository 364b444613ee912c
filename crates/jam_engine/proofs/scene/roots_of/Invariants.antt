use Rattle.std.proofs.Common.{take, ◌++◌, ◌≡◌}
use Rattle.std.specs.List.{filter_map}
use Rattle.jam_engine.specs.Targets.{root_of}
use Rattle.jam_scope.specs.Texts.{first_roots}
use Rattle.jam_engine.proofs.scene.roots_of.Given as goal

abbrev pub invariant-loop-dir : goal.invariant-loop-dir
invariant-loop-dir l = l.roots ≡ first_roots ++ filter_map root_of (take l.dir-index l.dir-items)
