use Rattle.b2_runs.proofs.CountedInOrder.{short_is_failed}
use Rattle.b2_runs.proofs.events_are_in_order.short_is_failed.Goals as goal

pub returns : goal.returns
returns c = short_is_failed
