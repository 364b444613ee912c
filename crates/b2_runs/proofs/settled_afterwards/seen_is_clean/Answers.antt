use Rattle.b2_runs.proofs.ClosureByPresent.{seen_is_clean}
use Rattle.b2_runs.proofs.settled_afterwards.seen_is_clean.Goals as goal

pub returns : goal.returns
returns c = seen_is_clean
