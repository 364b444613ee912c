use Rattle.b2_turns.proofs.SettledStepsStay.{children_as_looked as law}
use Rattle.b2_turns.proofs.laws.children_as_looked.Goals as goal

pub returns : goal.returns
returns c = law
