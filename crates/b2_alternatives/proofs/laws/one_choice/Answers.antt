use Rattle.b2_alternatives.proofs.TargetAndSetDecideChoice.{one_choice_law}
use Rattle.b2_alternatives.proofs.laws.one_choice.Goals as goal

pub returns : goal.returns
returns g c = one_choice_law
