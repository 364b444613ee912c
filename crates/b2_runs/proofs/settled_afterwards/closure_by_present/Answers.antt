use Rattle.b2_runs.proofs.ClosureByPresent.{closure_by_present}
use Rattle.b2_runs.proofs.settled_afterwards.closure_by_present.Goals as goal

pub returns : goal.returns
returns c = closure_by_present
