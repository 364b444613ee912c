use Rattle.b2_alternatives.proofs.TargetAndSetDecideChoice.{names_itself}
use Rattle.b2_alternatives.proofs.laws.names_itself.Goals as goal

pub returns : goal.returns
returns g c = names_itself
