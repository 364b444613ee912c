use Rattle.b2_runs.proofs.OutputsAreClean.{fresh_is_clean}
use Rattle.b2_runs.proofs.settled_is_clean.fresh_is_clean.Goals as goal

pub returns : goal.returns
returns c = fresh_is_clean
