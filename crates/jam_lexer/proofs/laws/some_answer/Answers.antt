use Rattle.jam_lexer.proofs.SomeAnswer.{some_answer}
use Rattle.jam_lexer.proofs.laws.some_answer.Goals as goal

pub returns : goal.returns
returns c = some_answer
