use Rattle.b2_runs.proofs.RunIsInOrder.{run_is_in_order}
use Rattle.b2_runs.proofs.events_are_in_order.run_is_in_order.Goals as goal

pub returns : goal.returns
returns c = run_is_in_order
