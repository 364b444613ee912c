use Rattle.b2_runs.proofs.StopLeavesNone.{noted_through_reopen}
use Rattle.b2_runs.proofs.sessions_end_clean.noted_through_reopen.Goals as goal

pub returns : goal.returns
returns c = noted_through_reopen
