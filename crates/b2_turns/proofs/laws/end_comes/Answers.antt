use Rattle.b2_turns.proofs.StepEnds.{end_comes}
use Rattle.b2_turns.proofs.laws.end_comes.Goals as goal

pub returns : goal.returns
returns c = end_comes
