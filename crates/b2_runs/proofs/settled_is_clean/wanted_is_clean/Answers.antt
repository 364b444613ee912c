use Rattle.b2_runs.proofs.OutputsAreClean.{wanted_is_clean}
use Rattle.b2_runs.proofs.settled_is_clean.wanted_is_clean.Goals as goal

pub returns : goal.returns
returns c = wanted_is_clean
