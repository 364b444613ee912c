use Rattle.b2_runs.proofs.SettledStays.{settled_after_end}
use Rattle.b2_runs.proofs.runs_go_on.settled_after_end.Goals as goal

pub returns : goal.returns
returns c = settled_after_end
