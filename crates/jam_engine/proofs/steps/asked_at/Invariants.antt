use Rattle.std.proofs.Common.{take, ◌++◌, ◌≡◌}
use Rattle.std.specs.List.{flat_map}
use Rattle.jam_engine.specs.Targets.{depends_of}
use Rattle.jam_engine.proofs.steps.asked_at.Given as goal

abbrev pub invariant-loop-target : goal.invariant-loop-target
invariant-loop-target l = l.asked ≡ l.fn.sources ++ flat_map (depends_of l.graph) (take l.target-index l.targets)
