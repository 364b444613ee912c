use Rattle.b2_drill_text.proofs.FileIsSmall.{drill_is_small}
use Rattle.b2_drill_text.proofs.laws.drill_is_small.Goals as goal

pub returns : goal.returns
returns c = drill_is_small
