use Rattle.b2_runs.proofs.OutputsAreNewer.{outputs_are_newer}
use Rattle.b2_runs.proofs.last_line_is_right.outputs_are_newer.Goals as goal

pub returns : goal.returns
returns c = outputs_are_newer
