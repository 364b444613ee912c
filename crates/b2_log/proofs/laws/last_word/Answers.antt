use Rattle.b2_log.proofs.LastLineHasLastWord as lemmas
use Rattle.b2_log.proofs.laws.last_word.Goals as goal

pub returns : goal.returns
returns c = lemmas.last_word
