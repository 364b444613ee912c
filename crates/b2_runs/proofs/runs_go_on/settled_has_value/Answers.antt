use Rattle.b2_runs.proofs.RunGoesOn.{settled_has_value}
use Rattle.b2_runs.proofs.runs_go_on.settled_has_value.Goals as goal

pub returns : goal.returns
returns c = settled_has_value
