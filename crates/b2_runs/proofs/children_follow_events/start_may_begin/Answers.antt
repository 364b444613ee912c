use Rattle.b2_runs.proofs.StartMayBegin.{start_may_begin}
use Rattle.b2_runs.proofs.children_follow_events.start_may_begin.Goals as goal

pub returns : goal.returns
returns c = start_may_begin
