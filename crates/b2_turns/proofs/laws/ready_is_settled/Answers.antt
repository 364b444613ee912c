use Rattle.b2_turns.proofs.SettledStepsStay.{ready_is_settled as law}
use Rattle.b2_turns.proofs.laws.ready_is_settled.Goals as goal

pub returns : goal.returns
returns c = law
