use Rattle.b2_runs.proofs.RunIsInOrder.{order_has_begun}
use Rattle.b2_runs.proofs.events_are_in_order.order_has_begun.Goals as goal

pub returns : goal.returns
returns c = order_has_begun
