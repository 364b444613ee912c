use Rattle.std.proofs.Common.{◌≡◌, take}
use Rattle.jam_grammar.specs.Readings.{last_line}
use Rattle.jam_parser.proofs.parse.last_line.Given as goal

abbrev pub invariant-loop-token : goal.invariant-loop-token
invariant-loop-token l = l.line ≡ last_line (take l.token-index l.tokens)
