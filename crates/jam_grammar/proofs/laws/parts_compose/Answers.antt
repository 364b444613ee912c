use Rattle.jam_grammar.proofs.PartsCompose.{both_read}
use Rattle.jam_grammar.proofs.laws.parts_compose.Goals as goal

pub returns : goal.returns
returns c = both_read
