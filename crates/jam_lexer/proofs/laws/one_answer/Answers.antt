use Rattle.jam_lexer.proofs.OneAnswer.{one_answer}
use Rattle.jam_lexer.proofs.laws.one_answer.Goals as goal

pub returns : goal.returns
returns c = one_answer
