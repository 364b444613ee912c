use Rattle.std.proofs.Common.{◌-◌, length}
use Rattle.jam_lexer.specs.Tokens.{NextWord}
use Rattle.jam_lexer.specs.Progress.{HasRead}
use Rattle.jam_lexer.proofs.reading.read_text.Given as goal

abbrev pub invariant-loop-start : goal.invariant-loop-start
invariant-loop-start l = HasRead l.bytes NextWord l.tokens.items l.place

abbrev pub decreases-loop-start : goal.decreases-loop-start
decreases-loop-start l = length l.bytes - l.place.at
