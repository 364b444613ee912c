use Rattle.b2_runs.proofs.OutputsAreClean.{settled_is_clean}
use Rattle.b2_runs.proofs.settled_is_clean.settled_is_clean.Goals as goal

pub returns : goal.returns
returns c = settled_is_clean
