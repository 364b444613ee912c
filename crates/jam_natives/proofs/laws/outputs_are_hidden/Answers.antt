use Rattle.jam_natives.proofs.OutputDirsHideTheirFiles.{hides_outputs}
use Rattle.jam_natives.proofs.laws.outputs_are_hidden.Goals as goal

pub returns : goal.returns
returns c = hides_outputs
