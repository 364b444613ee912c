use Rattle.b2_runs.proofs.CountedInOrder.{counted_as_they_are}
use Rattle.b2_runs.proofs.events_are_in_order.counted_as_they_are.Goals as goal

pub returns : goal.returns
returns c = counted_as_they_are
