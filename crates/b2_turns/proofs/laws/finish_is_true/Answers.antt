use Rattle.b2_turns.proofs.StepsFinish.{finish_is_true as law}
use Rattle.b2_turns.proofs.laws.finish_is_true.Goals as goal

pub returns : goal.returns
returns c = law
