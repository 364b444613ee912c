use Rattle.b2_prepare.proofs.OneMeaning.{one_meaning_is}
use Rattle.b2_prepare.proofs.laws.one_meaning.Goals as goal

pub returns : goal.returns
returns c = one_meaning_is c.one_ending.ensures c.one_plan.ensures
