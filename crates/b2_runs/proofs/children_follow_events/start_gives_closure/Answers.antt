use Rattle.b2_runs.proofs.StartMayBegin.{start_gives_closure}
use Rattle.b2_runs.proofs.children_follow_events.start_gives_closure.Goals as goal

pub returns : goal.returns
returns c = start_gives_closure
