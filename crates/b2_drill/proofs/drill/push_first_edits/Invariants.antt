use Rattle.std.proofs.Common.{◌≡◌, ◌++◌}
use Rattle.b2_drill.specs.Drills.{first_edits}
use Rattle.b2_drill.proofs.drill.push_first_edits.Given as goal

abbrev pub invariant-loop-i : goal.invariant-loop-i
invariant-loop-i l = l.events ≡ l.fn.events ++ first_edits l.i
