use Rattle.b2_drill_project.proofs.WalkFindsOneProject.{drill_loads}
use Rattle.b2_drill_project.proofs.laws.drill_loads.Goals as goal

pub returns : goal.returns
returns c = drill_loads
