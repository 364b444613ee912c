use Rattle.b2_drill_means.proofs.FilesComeToThePlan.{drill_means}
use Rattle.b2_drill_means.proofs.laws.drill_means.Goals as goal

pub returns : goal.returns
returns c = drill_means c.one_reading.ensures
