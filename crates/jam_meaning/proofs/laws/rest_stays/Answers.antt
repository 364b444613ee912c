use Rattle.jam_meaning.specs.Laws.{SameRest}
use Rattle.jam_meaning.proofs.FramesStay.{rest_kept}
use Rattle.jam_meaning.proofs.KeptByEval.{run_keeps}
use Rattle.jam_meaning.proofs.laws.rest_stays.Goals as goal

pub returns : goal.returns
returns c _ setting natives path trees s = run_keeps setting SameRest SameRest (rest_kept setting natives) path trees s
