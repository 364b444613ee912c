use Rattle.b2_runs.proofs.JudgedByPresent.{judged_by_present}
use Rattle.b2_runs.proofs.settled_afterwards.judged_by_present.Goals as goal

pub returns : goal.returns
returns c = judged_by_present
