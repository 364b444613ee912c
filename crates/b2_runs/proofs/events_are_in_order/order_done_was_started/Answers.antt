use Rattle.b2_runs.proofs.RunIsInOrder as lemmas
use Rattle.b2_runs.proofs.events_are_in_order.order_done_was_started.Goals as goal

pub returns : goal.returns
returns c = lemmas.done_was_started
