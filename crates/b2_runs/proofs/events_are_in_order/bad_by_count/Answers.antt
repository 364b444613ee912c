use Rattle.b2_runs.proofs.CountedInOrder.{bad_by_count}
use Rattle.b2_runs.proofs.events_are_in_order.bad_by_count.Goals as goal

pub returns : goal.returns
returns c = bad_by_count
