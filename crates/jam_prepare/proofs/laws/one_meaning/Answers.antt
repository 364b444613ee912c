use Rattle.jam_prepare.proofs.FileAndWordsMeanOneThing.{one_meaning}
use Rattle.jam_prepare.proofs.laws.one_meaning.Goals as goal

pub returns : goal.returns
returns c = one_meaning c.one_plan.ensures
