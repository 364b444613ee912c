use Rattle.b2_runs.proofs.OutputsAreClean.{none_is_short}
use Rattle.b2_runs.proofs.events_are_in_order.none_is_short.Goals as goal

pub returns : goal.returns
returns c = none_is_short
