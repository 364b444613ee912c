use Rattle.b2_runs.proofs.RunIsInOrder.{order_goes_on}
use Rattle.b2_runs.proofs.events_are_in_order.order_goes_on.Goals as goal

pub returns : goal.returns
returns c = order_goes_on
