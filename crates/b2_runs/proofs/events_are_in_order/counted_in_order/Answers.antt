use Rattle.b2_runs.proofs.CountedInOrder.{counted_in_order}
use Rattle.b2_runs.proofs.events_are_in_order.counted_in_order.Goals as goal

pub returns : goal.returns
returns c = counted_in_order
