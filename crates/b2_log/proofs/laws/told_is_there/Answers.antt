use Rattle.b2_log.proofs.LastLineHasLastWord as lemmas
use Rattle.b2_log.proofs.laws.told_is_there.Goals as goal

pub returns : goal.returns
returns c = lemmas.told_is_there
