use Rattle.b2_again_laws.proofs.NextIsOfOnePlan.{after_stop}
use Rattle.b2_again_laws.proofs.laws.next_after_stop.Goals as goal

pub returns : goal.returns
returns c = λ made words again n a stopped. after_stop c.one_meaning.ensures made words again n a stopped
