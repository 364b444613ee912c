use Rattle.std.proofs.Common.{◌≡◌, ◌++◌}
use Rattle.std.specs.String.{string_bytes}
use Rattle.b2_drill.specs.Drills.{join_line, make_lines}
use Rattle.b2_drill.proofs.project.jamroot.Given as goal

abbrev pub invariant-loop-i : goal.invariant-loop-i
invariant-loop-i l = string_bytes l.text ≡ join_line ++ make_lines l.i
