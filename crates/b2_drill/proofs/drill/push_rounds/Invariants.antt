use Rattle.std.proofs.Common.{◌≡◌, ◌++◌}
use Rattle.b2_drill.specs.Drills.{rounds}
use Rattle.b2_drill.proofs.drill.push_rounds.Given as goal

abbrev pub invariant-loop-done : goal.invariant-loop-done
invariant-loop-done l = l.events ≡ l.fn.events ++ rounds l.n l.done
