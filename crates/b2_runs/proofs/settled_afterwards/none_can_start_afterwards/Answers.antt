use Rattle.b2_runs.proofs.NothingStartsAfterwards.{none_can_start_afterwards}
use Rattle.b2_runs.proofs.settled_afterwards.none_can_start_afterwards.Goals as goal

pub returns : goal.returns
returns c = none_can_start_afterwards
