use Rattle.b2_drill_clean.proofs.EachOutputHasAValue.{drill_has_none_large}
use Rattle.b2_drill_clean.proofs.laws.drill_has_none_large.Goals as goal

pub returns : goal.returns
returns c = drill_has_none_large
