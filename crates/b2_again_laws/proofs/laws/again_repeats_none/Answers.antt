use Rattle.b2_again_laws.proofs.NothingIsRepeated.{again_repeats_none}
use Rattle.b2_again_laws.proofs.laws.again_repeats_none.Goals as goal

pub returns : goal.returns
returns c = again_repeats_none c.one_meaning.ensures
