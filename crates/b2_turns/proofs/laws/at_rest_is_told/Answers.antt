use Rattle.b2_turns.proofs.RestIsTold.{at_rest_is_told as law}
use Rattle.b2_turns.proofs.laws.at_rest_is_told.Goals as goal

pub returns : goal.returns
returns c = law
