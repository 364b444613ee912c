use Rattle.jam_spelling.proofs.SpelledReadsBack.{all_said, all_answered}
use Rattle.jam_spelling.proofs.laws.read_back.Goals as goal

pub returns-clause-tokens : goal.returns-clause-tokens
returns-clause-tokens c = all_said

pub returns-clause-answer : goal.returns-clause-answer
returns-clause-answer c = all_answered
