use Rattle.b2_runs.proofs.BegunUpToStart.{run_is_begun}
use Rattle.b2_runs.proofs.no_work_is_lost.run_is_begun.Goals as goal

pub returns : goal.returns
returns c = run_is_begun
