use Rattle.std.proofs.Common.{◌-◌, length}
use Rattle.jam_lexer.proofs.WordsGrowLetterByLetter.{IsReading}
use Rattle.jam_lexer.proofs.word.word_end.Given as goal

abbrev pub invariant-loop-at : goal.invariant-loop-at
invariant-loop-at l = IsReading l.bytes l.start l.at l.quoted

abbrev pub decreases-loop-at : goal.decreases-loop-at
decreases-loop-at l = length l.bytes - l.at
