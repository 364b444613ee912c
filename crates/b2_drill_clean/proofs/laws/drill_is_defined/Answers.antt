use Rattle.b2_drill_clean.proofs.EachOutputHasAValue.{drill_is_defined}
use Rattle.b2_drill_clean.proofs.laws.drill_is_defined.Goals as goal

pub returns : goal.returns
returns c = drill_is_defined
