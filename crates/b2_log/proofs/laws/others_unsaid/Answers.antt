use Rattle.b2_log.proofs.LastLineHasLastWord as lemmas
use Rattle.b2_log.proofs.laws.others_unsaid.Goals as goal

pub returns : goal.returns
returns c = lemmas.others_unsaid
