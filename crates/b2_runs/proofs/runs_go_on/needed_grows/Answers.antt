use Rattle.b2_runs.proofs.SettledStays.{needed_grows}
use Rattle.b2_runs.proofs.runs_go_on.needed_grows.Goals as goal

pub returns : goal.returns
returns c = needed_grows
