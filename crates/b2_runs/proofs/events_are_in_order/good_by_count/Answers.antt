use Rattle.b2_runs.proofs.CountedInOrder.{good_by_count}
use Rattle.b2_runs.proofs.events_are_in_order.good_by_count.Goals as goal

pub returns : goal.returns
returns c = good_by_count
