use Rattle.b2_runs.proofs.RunGoesOn.{started_has_closure}
use Rattle.b2_runs.proofs.runs_go_on.started_has_closure.Goals as goal

pub returns : goal.returns
returns c = started_has_closure
