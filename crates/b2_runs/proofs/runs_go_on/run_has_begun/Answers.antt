use Rattle.b2_runs.proofs.RunGoesOn.{run_has_begun}
use Rattle.b2_runs.proofs.runs_go_on.run_has_begun.Goals as goal

pub returns : goal.returns
returns c = run_has_begun
