use Rattle.b2_looks.proofs.LooseAreBlank.{sight_stays_true as law}
use Rattle.b2_looks.proofs.laws.sight_stays_true.Goals as goal

pub returns : goal.returns
returns c = law
