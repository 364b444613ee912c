use Rattle.b2_runs.proofs.RunIsInOrder.{begun_is_in_order}
use Rattle.b2_runs.proofs.events_are_in_order.begun_is_in_order.Goals as goal

pub returns : goal.returns
returns c = begun_is_in_order
