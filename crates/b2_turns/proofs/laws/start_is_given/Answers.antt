use Rattle.b2_turns.proofs.StartIsGiven.{start_is_given as law}
use Rattle.b2_turns.proofs.laws.start_is_given.Goals as goal

pub returns : goal.returns
returns c = law
