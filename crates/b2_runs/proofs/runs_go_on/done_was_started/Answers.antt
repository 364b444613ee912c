use Rattle.b2_runs.proofs.RunGoesOn.{done_was_started}
use Rattle.b2_runs.proofs.runs_go_on.done_was_started.Goals as goal

pub returns : goal.returns
returns c = done_was_started
