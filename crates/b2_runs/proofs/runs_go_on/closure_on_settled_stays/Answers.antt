use Rattle.b2_runs.proofs.SettledStays.{closure_on_settled_stays}
use Rattle.b2_runs.proofs.runs_go_on.closure_on_settled_stays.Goals as goal

pub returns : goal.returns
returns c = closure_on_settled_stays
