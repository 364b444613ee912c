use Rattle.b2_runs.proofs.SettledAfterwards.{settled_afterwards}
use Rattle.b2_runs.proofs.settled_afterwards.settled_afterwards.Goals as goal

pub returns : goal.returns
returns c = settled_afterwards
