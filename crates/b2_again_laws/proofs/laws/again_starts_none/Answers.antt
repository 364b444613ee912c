use Rattle.b2_again_laws.proofs.NothingIsRepeated.{again_starts_none}
use Rattle.b2_again_laws.proofs.laws.again_starts_none.Goals as goal

pub returns : goal.returns
returns c = again_starts_none c.one_meaning.ensures
