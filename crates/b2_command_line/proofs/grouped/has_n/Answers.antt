use Rattle.b2_command_line.proofs.EachDecidesOrRestDoes.{n_found, j_found, letter_passed, no_letter}
use Rattle.b2_command_line.proofs.grouped.has_n.Goals as goal

pub returns-then-letter-eq110 : goal.returns-then-letter-eq110
returns-then-letter-eq110 c = n_found _ _ _ c.loop-letter-test.true c.if-letter-eq110.true c.loop-letter.invariant

pub returns-then-letter-eq106 : goal.returns-then-letter-eq106
returns-then-letter-eq106 c = j_found _ _ _ c.loop-letter-test.true c.if-letter-eq110.false c.if-letter-eq106.true c.loop-letter.invariant

pub loop-letter-preserved : goal.loop-letter-preserved
loop-letter-preserved c = letter_passed _ _ _ c.loop-letter-test.true c.if-letter-eq110.false c.if-letter-eq106.false c.loop-letter.invariant

pub returns : goal.returns
returns c = no_letter _ _ c.loop-letter-test.false c.loop-letter.invariant
