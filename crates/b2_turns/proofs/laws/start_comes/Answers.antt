use Rattle.b2_turns.proofs.StartComes.{start_comes as law}
use Rattle.b2_turns.proofs.laws.start_comes.Goals as goal

pub returns : goal.returns
returns c = law
