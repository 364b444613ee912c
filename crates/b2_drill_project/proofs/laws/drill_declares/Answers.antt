use Rattle.b2_drill_project.proofs.CallsDeclareTargets.{drill_declares}
use Rattle.b2_drill_project.proofs.laws.drill_declares.Goals as goal

pub returns : goal.returns
returns c = drill_declares
