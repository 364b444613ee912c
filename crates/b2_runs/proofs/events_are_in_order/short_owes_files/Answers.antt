use Rattle.b2_runs.proofs.CountedInOrder.{short_owes_files}
use Rattle.b2_runs.proofs.events_are_in_order.short_owes_files.Goals as goal

pub returns : goal.returns
returns c = short_owes_files
