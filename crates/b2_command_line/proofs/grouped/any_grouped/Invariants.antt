use Rattle.std.proofs.Common.{◌≡◌, drop}
use Rattle.b2_command_line.specs.Grouped.{any_grouped}
use Rattle.b2_command_line.proofs.grouped.any_grouped.Given as goal

abbrev pub invariant-loop-word : goal.invariant-loop-word
invariant-loop-word l = any_grouped (drop l.word-index l.words) ≡ any_grouped l.words
