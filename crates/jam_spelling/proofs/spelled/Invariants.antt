use Rattle.jam_spelling.proofs.WritingGoesLexemeByLexeme.{HasWritten}
use Rattle.jam_spelling.proofs.spelled.Given as goal

abbrev pub invariant-loop-place : goal.invariant-loop-place
invariant-loop-place l = HasWritten l.lexemes l.place l.bytes.items
