use Rattle.b2_generation_laws.proofs.TargetAndSetDecideAnswer.{same_answer}
use Rattle.b2_generation_laws.proofs.laws.same_answer.Goals as goal

pub returns : goal.returns
returns g c = same_answer
