use Rattle.b2_runs.proofs.ClosureByPresent.{known_by_present}
use Rattle.b2_runs.proofs.settled_afterwards.known_by_present.Goals as goal

pub returns : goal.returns
returns c = known_by_present
