use Rattle.b2_runs.proofs.BegunUpToStart.{noted_through_ends}
use Rattle.b2_runs.proofs.no_work_is_lost.noted_through_ends.Goals as goal

pub returns : goal.returns
returns c = noted_through_ends
