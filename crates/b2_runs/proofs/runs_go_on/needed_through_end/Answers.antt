use Rattle.b2_runs.proofs.SettledStays.{needed_through_end}
use Rattle.b2_runs.proofs.runs_go_on.needed_through_end.Goals as goal

pub returns : goal.returns
returns c = needed_through_end
