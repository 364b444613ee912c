use Rattle.b2_generation_laws.proofs.DeclaredIdsAreDistinct.{ids_are_distinct}
use Rattle.b2_generation_laws.proofs.laws.ids_are_distinct.Goals as goal

pub returns : goal.returns
returns c = ids_are_distinct
