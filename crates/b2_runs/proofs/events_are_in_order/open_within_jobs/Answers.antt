use Rattle.b2_runs.proofs.RunIsInOrder.{open_within_jobs}
use Rattle.b2_runs.proofs.events_are_in_order.open_within_jobs.Goals as goal

pub returns : goal.returns
returns c = open_within_jobs
