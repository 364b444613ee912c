use Rattle.std.proofs.Common.{map, take, ◌≡◌}
use Rattle.b2_base.specs.Segments.{normal_of}
use Rattle.jam_engine.specs.Targets.{or_here}
use Rattle.jam_engine.proofs.steps.paths_of_dirs.Given as goal

abbrev pub invariant-loop-dir : goal.invariant-loop-dir
invariant-loop-dir l = l.made ≡ map (λ dir. normal_of (or_here dir)) (take l.dir-index l.dirs)
