use Rattle.b2_runs.proofs.NothingStartsAfterwards.{nothing_starts_afterwards}
use Rattle.b2_runs.proofs.settled_afterwards.nothing_starts_afterwards.Goals as goal

pub returns : goal.returns
returns c = nothing_starts_afterwards
