use Rattle.std.proofs.Common.{◌≡◌, drop}
use Rattle.b2_command_line.specs.Grouped.{has_n}
use Rattle.b2_command_line.proofs.grouped.has_n.Given as goal

abbrev pub invariant-loop-letter : goal.invariant-loop-letter
invariant-loop-letter l = has_n (drop l.letter-index l.letters) ≡ has_n l.letters
