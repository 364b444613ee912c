use Rattle.b2_alternatives.proofs.FirstUnmetNeedComesNext.{due_new}
use Rattle.b2_alternatives.specs.Needs.{needs}
use Rattle.b2_alternatives.proofs.laws.due_is_new.Goals as goal

pub returns : goal.returns
returns c = λ d t u name e. due_new u.done (needs d t u.set) name e
