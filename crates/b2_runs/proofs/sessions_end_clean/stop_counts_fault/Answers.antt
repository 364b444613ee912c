use Rattle.b2_runs.proofs.StopLeavesNone.{stop_counts_fault}
use Rattle.b2_runs.proofs.sessions_end_clean.stop_counts_fault.Goals as goal

pub returns : goal.returns
returns c = stop_counts_fault
