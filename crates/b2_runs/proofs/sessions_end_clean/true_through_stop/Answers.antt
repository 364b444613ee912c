use Rattle.b2_runs.proofs.TrueThroughSession.{true_through_stop}
use Rattle.b2_runs.proofs.sessions_end_clean.true_through_stop.Goals as goal

pub returns : goal.returns
returns c = true_through_stop
