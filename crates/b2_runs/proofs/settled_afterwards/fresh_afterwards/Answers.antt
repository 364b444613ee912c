use Rattle.b2_runs.proofs.SettledAfterwards.{fresh_afterwards}
use Rattle.b2_runs.proofs.settled_afterwards.fresh_afterwards.Goals as goal

pub returns : goal.returns
returns c = fresh_afterwards
