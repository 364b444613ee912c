use Rattle.b2_runs.proofs.OutputsAreClean.{outputs_are_clean}
use Rattle.b2_runs.proofs.settled_is_clean.outputs_are_clean.Goals as goal

pub returns : goal.returns
returns c = outputs_are_clean
