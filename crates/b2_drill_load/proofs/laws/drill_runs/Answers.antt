use Rattle.b2_drill_load.proofs.FileRuns.{drill_runs}
use Rattle.b2_drill_load.proofs.laws.drill_runs.Goals as goal

pub returns : goal.returns
returns c = drill_runs
