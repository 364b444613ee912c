use Rattle.jam_meaning.specs.Laws.{SameParents}
use Rattle.jam_meaning.proofs.FramesStay.{parents_kept}
use Rattle.jam_meaning.proofs.KeptByEval.{run_keeps}
use Rattle.jam_meaning.proofs.laws.parents_stay.Goals as goal

pub returns : goal.returns
returns c _ setting natives path trees s = run_keeps setting SameParents SameParents (parents_kept setting natives) path trees s
