use Rattle.jam_spelling.proofs.SpelledReadsBack.{can_join}
use Rattle.jam_spelling.proofs.laws.stand_joined.Goals as goal

pub returns : goal.returns
returns c = can_join
