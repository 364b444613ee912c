use Rattle.b2_runs.proofs.RunIsPrefix.{run_is_prefix}
use Rattle.b2_runs.proofs.runs_go_on.run_is_prefix.Goals as goal

pub returns : goal.returns
returns c = run_is_prefix
