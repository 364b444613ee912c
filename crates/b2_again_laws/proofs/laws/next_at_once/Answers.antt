use Rattle.b2_again_laws.proofs.NextIsOfOnePlan.{at_once}
use Rattle.b2_again_laws.proofs.laws.next_at_once.Goals as goal

pub returns : goal.returns
returns c = λ made words again n a still. at_once c.one_meaning.ensures made words again n a still
