use Rattle.b2_runs.proofs.RunIsInOrder as lemmas
use Rattle.b2_runs.proofs.events_are_in_order.order_each_once.Goals as goal

pub returns : goal.returns
returns c = lemmas.each_event_once
