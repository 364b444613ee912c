use Rattle.jam_lexer.proofs.OneAnswer.{one_tokens}
use Rattle.jam_lexer.proofs.laws.one_list.Goals as goal

pub returns : goal.returns
returns c = one_tokens
