use Rattle.b2_runs.proofs.SettledStays.{closure_on_settled}
use Rattle.b2_runs.proofs.runs_go_on.closure_on_settled.Goals as goal

pub returns : goal.returns
returns c = closure_on_settled
