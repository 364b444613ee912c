use Rattle.b2_runs.proofs.RunGoesOn.{run_goes_on}
use Rattle.b2_runs.proofs.runs_go_on.run_goes_on.Goals as goal

pub returns : goal.returns
returns c = run_goes_on
