use Rattle.b2_runs.proofs.RunGoesOn.{done_once}
use Rattle.b2_runs.proofs.runs_go_on.done_once.Goals as goal

pub returns : goal.returns
returns c = done_once
