use Rattle.b2_runs.proofs.StopLeavesNone.{update_counts_fault}
use Rattle.b2_runs.proofs.sessions_end_clean.update_counts_fault.Goals as goal

pub returns : goal.returns
returns c = update_counts_fault
