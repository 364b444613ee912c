use Rattle.b2_runs.proofs.CountedInOrder.{counted_where_visible}
use Rattle.b2_runs.proofs.events_are_in_order.counted_where_visible.Goals as goal

pub returns : goal.returns
returns c = counted_where_visible
