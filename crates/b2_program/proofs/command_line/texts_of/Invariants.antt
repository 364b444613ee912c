use Rattle.std.proofs.Common.{◌≡◌, map, take, string_bytes}
use Rattle.b2_program.proofs.command_line.texts_of.Given as goal

-- the texts so far
abbrev pub invariant-loop-word : goal.invariant-loop-word
invariant-loop-word l = l.made.items ≡ map string_bytes (take l.word-index l.words)
