use Rattle.b2_endings.proofs.EndingIsAnswered.{ending_is_answer as law}
use Rattle.b2_endings.proofs.laws.ending_is_answer.Goals as goal

pub returns : goal.returns
returns c = law
