use Rattle.jam_expand.proofs.PlainBodyIsItself.{words_interleaved}
use Rattle.jam_expand.proofs.laws.words_spell_body.Goals as goal

pub returns : goal.returns
returns c = words_interleaved
